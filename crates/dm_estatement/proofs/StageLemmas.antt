-- The calls of a function in their order, and what is made of what they give: with these bound once, each way in which it ends is a line.
--     Single, Pair, Triple      the whole is one call, two or three, and what is made of them
--     Awaits B old now whole      where the code stands, the whole comes to a call that gives a B, and what is typed behind it
--     only-fails, first-fails, next-fails ..      a call fails, and the whole with it
--     only-dry, both-dry, all-dry      there is no memory for what is made
--     only-made, both-made, all-made      it is made
--     call-fails, call-passes, call-starves      the same of what is awaited
use Rattle.std.specs.Prelude.{◌≡◌, List, Result, Ok, Err, IsErrAnd}
use Rattle.dm_token.specs.declared.stop.Stop.{Stop}
use Rattle.dm_token.specs.declared.stop.Stop.TheVariants as stop
use Rattle.dm_type.specs.declared.shape.Shape.{Shape}
use Rattle.dm_type.specs.Tables.{Table}
use Rattle.dm_syn.specs.Sources.{Source}
use Rattle.dm_typing.specs.Views.{Begins}
use Rattle.dm_edecl.specs.Standing.{Standing, Progress, goes_on, further}
use Rattle.dm_estanding.specs.declared.standing.Standing.{Standing as Held}
use Rattle.dm_estanding.specs.Proceeding.{Proceeds}
use Rattle.dm_estanding.proofs.ProceedingLemmas.{Arrives, passes, fails, relays, runs-out}
use Rattle.dm_estatement.proofs.CallLemmas.{single-fails, single-dry, single-made, pair-fails, pair-fails-then, pair-dry, pair-made, triple-fails, triple-fails-then, triple-fails-last, triple-dry, triple-made}

-- ---- one call

pub record Single {D : Type 0} (B : Type 0) (whole : List Shape → Standing → Progress D) : Type 0 where
  pub one : List Shape → Standing → Progress B
  pub made : List Shape → B → D
  pub is : (later : List Shape) (before : Standing) → whole later before ≡ further (one later before) (λ behind first. goes_on behind (made later first))

module _ {A B C D : Type 0} {FitsA : Table → A → Type 0} {viewA : List Shape → A → B} {Fits : Table → C → Type 0} {seen : List Shape → C → D} {source : Source} {old new : Held} {whole : List Shape → Standing → Progress D}
    {fault : Stop} {result : Result C Stop} where
  pub only-fails : (calls : Single B whole) → Proceeds FitsA viewA source old new (Err fault) calls.one → IsErrAnd result (λ e. e ≡ fault) → Proceeds Fits seen source old new result whole
  only-fails calls p handed = single-fails FitsA viewA Fits seen source old whole calls.one calls.made calls.is new fault p result handed

module _ {A B C D : Type 0} {FitsA : Table → A → Type 0} {viewA : List Shape → A → B} {Fits : Table → C → Type 0} {seen : List Shape → C → D} {source : Source} {old new : Held} {whole : List Shape → Standing → Progress D}
    {first : A} where
  pub only-dry : {result : Result C Stop} (calls : Single B whole) → Proceeds FitsA viewA source old new (Ok first) calls.one → IsErrAnd result (λ e. e ≡ stop.Memory) → Proceeds Fits seen source old new result whole
  only-dry {result = result} calls p handed = single-dry FitsA viewA Fits seen source old whole calls.one calls.made calls.is new first p result handed

  pub only-made : {it : C} (calls : Single B whole) → Proceeds FitsA viewA source old new (Ok first) calls.one → ((later : List Shape) → Begins new.known.types.shapes later → seen later it ≡ calls.made later (viewA later first))
      → Fits new.known.types it → Proceeds Fits seen source old new (Ok it) whole
  only-made {it = it} calls p is fits = single-made FitsA viewA Fits seen source old whole calls.one calls.made calls.is new first p it is fits

-- ---- two calls

pub record Pair {F : Type 0} (B D : Type 0) (whole : List Shape → Standing → Progress F) : Type 0 where
  pub one : List Shape → Standing → Progress B
  pub two : List Shape → B → Standing → Progress D
  pub made : List Shape → B → D → F
  pub is : (later : List Shape) (before : Standing) → whole later before
      ≡ further (one later before) (λ then_standing first. further (two later first then_standing) (λ behind second. goes_on behind (made later first second)))

module _ {A B D E F : Type 0} {FitsA : Table → A → Type 0} {viewA : List Shape → A → B} {Fits : Table → E → Type 0} {seen : List Shape → E → F} {source : Source} {old new : Held} {whole : List Shape → Standing → Progress F}
    {fault : Stop} {result : Result E Stop} where
  pub first-fails : (calls : Pair B D whole) → Proceeds FitsA viewA source old new (Err fault) calls.one → IsErrAnd result (λ e. e ≡ fault) → Proceeds Fits seen source old new result whole
  first-fails calls p handed = pair-fails FitsA viewA (λ (table : Table) (it : D). Unit {0}) (λ (later : List Shape) (it : D). it) Fits seen source old whole calls.one calls.two calls.made calls.is new fault p result handed

module _ {A B C D E F : Type 0} {FitsA : Table → A → Type 0} {viewA : List Shape → A → B} {FitsC : Table → C → Type 0} {viewC : List Shape → C → D} {Fits : Table → E → Type 0} {seen : List Shape → E → F}
    {source : Source} {old mid new : Held} {whole : List Shape → Standing → Progress F} {first : A} where
  pub next-fails : {fault : Stop} {result : Result E Stop} (calls : Pair B D whole) → Proceeds FitsA viewA source old mid (Ok first) calls.one
      → Proceeds FitsC viewC source mid new (Err fault) (λ later standing. calls.two later (viewA later first) standing) → IsErrAnd result (λ e. e ≡ fault) → Proceeds Fits seen source old new result whole
  next-fails {fault = fault} {result = result} calls p q handed = pair-fails-then FitsA viewA FitsC viewC Fits seen source old whole calls.one calls.two calls.made calls.is mid first p new fault q result handed

  pub both-dry : {second : C} {result : Result E Stop} (calls : Pair B D whole) → Proceeds FitsA viewA source old mid (Ok first) calls.one
      → Proceeds FitsC viewC source mid new (Ok second) (λ later standing. calls.two later (viewA later first) standing) → IsErrAnd result (λ e. e ≡ stop.Memory) → Proceeds Fits seen source old new result whole
  both-dry {second = second} {result = result} calls p q handed = pair-dry FitsA viewA FitsC viewC Fits seen source old whole calls.one calls.two calls.made calls.is mid first p new second q result handed

  pub both-made : {second : C} {it : E} (calls : Pair B D whole) → Proceeds FitsA viewA source old mid (Ok first) calls.one
      → Proceeds FitsC viewC source mid new (Ok second) (λ later standing. calls.two later (viewA later first) standing)
      → ((later : List Shape) → Begins new.known.types.shapes later → seen later it ≡ calls.made later (viewA later first) (viewC later second)) → Fits new.known.types it → Proceeds Fits seen source old new (Ok it) whole
  both-made {second = second} {it = it} calls p q is fits = pair-made FitsA viewA FitsC viewC Fits seen source old whole calls.one calls.two calls.made calls.is mid first p new second q it is fits

-- ---- three calls

pub record Triple {H : Type 0} (B D F : Type 0) (whole : List Shape → Standing → Progress H) : Type 0 where
  pub one : List Shape → Standing → Progress B
  pub two : List Shape → Standing → Progress D
  pub three : List Shape → Standing → Progress F
  pub made : List Shape → B → D → F → H
  pub is : (later : List Shape) (before : Standing) → whole later before ≡ further (one later before) (λ then_standing first. further (two later then_standing) (λ then_more second.
      further (three later then_more) (λ behind third. goes_on behind (made later first second third))))

-- each call by itself needs no other
module _ {B D F G H : Type 0} {Fits : Table → G → Type 0} {seen : List Shape → G → H} {source : Source} {old new : Held} {whole : List Shape → Standing → Progress H} {fault : Stop} {result : Result G Stop} where
  pub one-fails : {A : Type 0} {FitsA : Table → A → Type 0} {viewA : List Shape → A → B} (calls : Triple B D F whole) → Proceeds FitsA viewA source old new (Err fault) calls.one → IsErrAnd result (λ e. e ≡ fault)
      → Proceeds Fits seen source old new result whole
  one-fails {FitsA = FitsA} {viewA = viewA} calls p handed =
      triple-fails FitsA viewA (λ (table : Table) (it : D). Unit {0}) (λ (later : List Shape) (it : D). it) (λ (table : Table) (it : F). Unit {0}) (λ (later : List Shape) (it : F). it) Fits seen source old whole calls.one calls.two calls.three calls.made calls.is new fault p result handed

module _ {A B C D F G H : Type 0} {FitsA : Table → A → Type 0} {viewA : List Shape → A → B} {FitsC : Table → C → Type 0} {viewC : List Shape → C → D} {Fits : Table → G → Type 0} {seen : List Shape → G → H}
    {source : Source} {old mid new : Held} {whole : List Shape → Standing → Progress H} {first : A} where
  pub two-fails : {fault : Stop} {result : Result G Stop} (calls : Triple B D F whole) → Proceeds FitsA viewA source old mid (Ok first) calls.one → Proceeds FitsC viewC source mid new (Err fault) calls.two
      → IsErrAnd result (λ e. e ≡ fault) → Proceeds Fits seen source old new result whole
  two-fails {fault = fault} {result = result} calls p q handed =
      triple-fails-then FitsA viewA FitsC viewC (λ (table : Table) (it : F). Unit {0}) (λ (later : List Shape) (it : F). it) Fits seen source old whole calls.one calls.two calls.three calls.made calls.is mid first p new fault q result handed

module _ {A B C D E F G H : Type 0} {FitsA : Table → A → Type 0} {viewA : List Shape → A → B} {FitsC : Table → C → Type 0} {viewC : List Shape → C → D} {Fits : Table → G → Type 0} {seen : List Shape → G → H}
    {source : Source} {old mid more new : Held} {whole : List Shape → Standing → Progress H} {first : A} {second : C} where
  module _ {FitsE : Table → E → Type 0} {viewE : List Shape → E → F} where
    pub three-fails : {fault : Stop} {result : Result G Stop} (calls : Triple B D F whole) → Proceeds FitsA viewA source old mid (Ok first) calls.one → Proceeds FitsC viewC source mid more (Ok second) calls.two
        → Proceeds FitsE viewE source more new (Err fault) calls.three → IsErrAnd result (λ e. e ≡ fault) → Proceeds Fits seen source old new result whole
    three-fails {fault = fault} {result = result} calls p q r handed =
        triple-fails-last FitsA viewA FitsC viewC FitsE viewE Fits seen source old whole calls.one calls.two calls.three calls.made calls.is mid first p more second q new fault r result handed

    pub all-dry : {third : E} {result : Result G Stop} (calls : Triple B D F whole) → Proceeds FitsA viewA source old mid (Ok first) calls.one → Proceeds FitsC viewC source mid more (Ok second) calls.two
        → Proceeds FitsE viewE source more new (Ok third) calls.three → IsErrAnd result (λ e. e ≡ stop.Memory) → Proceeds Fits seen source old new result whole
    all-dry {third = third} {result = result} calls p q r handed =
        triple-dry FitsA viewA FitsC viewC FitsE viewE Fits seen source old whole calls.one calls.two calls.three calls.made calls.is mid first p more second q new third r result handed

    pub all-made : {third : E} {it : G} (calls : Triple B D F whole) → Proceeds FitsA viewA source old mid (Ok first) calls.one → Proceeds FitsC viewC source mid more (Ok second) calls.two
        → Proceeds FitsE viewE source more new (Ok third) calls.three
        → ((later : List Shape) → Begins new.known.types.shapes later → seen later it ≡ calls.made later (viewA later first) (viewC later second) (viewE later third)) → Fits new.known.types it
        → Proceeds Fits seen source old new (Ok it) whole
    all-made {third = third} {it = it} calls p q r is fits =
        triple-made FitsA viewA FitsC viewC FitsE viewE Fits seen source old whole calls.one calls.two calls.three calls.made calls.is mid first p more second q new third r it is fits

-- ---- a call where the code stands

pub record Awaits {D : Type 0} (B : Type 0) (old now : Held) (whole : List Shape → Standing → Progress D) : Type 0 where
  pub one : List Shape → Standing → Progress B
  pub next : List Shape → Standing → B → Progress D
  pub arrived : Arrives old now whole (λ later behind. further (one later behind) (next later))

module _ {A B D : Type 0} {Fits : Table → A → Type 0} {view : List Shape → A → B} {source : Source} {old now new : Held} {whole : List Shape → Standing → Progress D} where
  pub call-passes : {it : A} (call : Awaits B old now whole) → Proceeds Fits view source now new (Ok it) call.one → Arrives old new whole (λ later behind. call.next later behind (view later it))
  call-passes {it = it} call p = passes Fits view source old now new whole call.one call.next it call.arrived p

  module _ {C : Type 0} {FitsAll : Table → C → Type 0} {seen : List Shape → C → D} {result : Result C Stop} where
    pub call-fails : {fault : Stop} (call : Awaits B old now whole) → Proceeds Fits view source now new (Err fault) call.one → IsErrAnd result (λ e. e ≡ fault) → Proceeds FitsAll seen source old new result whole
    call-fails {fault = fault} call p handed = relays FitsAll seen source old new whole result fault handed (fails Fits view source old now new whole FitsAll seen call.one call.next fault call.arrived p)

    pub call-starves : {it : A} (call : Awaits B old now whole) → Proceeds Fits view source now new (Ok it) call.one → IsErrAnd result (λ e. e ≡ stop.Memory) → Proceeds FitsAll seen source old new result whole
    call-starves call p handed = runs-out FitsAll seen source old new whole result (call-passes call p).shapes handed
