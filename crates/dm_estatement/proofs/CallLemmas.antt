-- Calls in their order, and what is made of what they give.
use Rattle.std.specs.Prelude.{◌≡◌, ℕ, ℤ, true, List, Option, None, Result, Ok, Err, IsErrAnd, refl}
use Rattle.std.proofs.Common.{sym, ap, subst}
use Rattle.dm_token.specs.declared.stop.Stop.{Stop}
use Rattle.dm_token.specs.declared.stop.Stop.TheVariants as stop
use Rattle.dm_type.specs.declared.shape.Shape.{Shape}
use Rattle.dm_type.specs.Tables.{Table}
use Rattle.dm_syn.specs.Sources.{Source}
use Rattle.dm_typing.specs.Views.{Begins, known_over}
use Rattle.dm_typing.specs.Known.{Known, Outcome}
use Rattle.dm_typing.proofs.LaterLemmas.{begins-itself}
use Rattle.dm_edeclarator.specs.Steps.{Follows}
use Rattle.dm_eexpr.proofs.KeepLemmas.{KeepsIn, Leads, SameTrees}
use Rattle.dm_edecl.specs.Standing.{Standing, Progress, goes_on, stops, further, typing}
use Rattle.dm_estanding.specs.declared.standing.Standing.{Standing as Held}
use Rattle.dm_estanding.specs.Proceeding.{Proceeds}
use Rattle.dm_estanding.proofs.ProceedingLemmas.{Arrives, starts, restated, passes, fails, done, stops-there, starves, relays, runs-out, types, type-fails}
use Rattle.dm_edecl.specs.Statements.{is_label_among}
use Rattle.dm_estatement.specs.Parts.{AddsDefault}

-- ---- an expression

-- what is typed where a statement stands
module _ {A B : Type 0} (Fits : Table → A → Type 0) (view : List Shape → A → B) (source : Source) (old new : Held) (one : List Shape → Known → Outcome B)
    (links : new.links ≡ old.links) (retyped : new.retyped.items ≡ old.retyped.items) (keeps-all : (later : List Shape) (known : Known) → KeepsIn known (one later known))
    (trees : (later : List Shape) (known : Known) → Leads SameTrees known (one later known)) where
  abbrev whole-here : List Shape → Standing → Progress B
  whole-here later before = typing before (one later before.known) (λ behind it. goes_on behind it)

  pub typed-here : (result : Result A Stop) → Follows Fits view source old.known new.known result (λ later. one later (known_over later old.known)) → Proceeds Fits view source old new result whole-here
  typed-here (Ok it) f =
      done Fits view source old new whole-here it
      (types Fits view source old old new whole-here one (λ later behind it. goes_on behind it) (starts old whole-here whole-here (λ later before stands lawful. refl)) it f links retyped keeps-all trees)
      f.numbered
  typed-here (Err fault) f =
      type-fails Fits view source old old new whole-here one (λ later behind it. goes_on behind it) (starts old whole-here whole-here (λ later before stands lawful. refl)) Fits view fault f

-- ---- one call

module _ {A B C D : Type 0} (FitsA : Table → A → Type 0) (viewA : List Shape → A → B) (Fits : Table → C → Type 0) (seen : List Shape → C → D) (source : Source) (old : Held)
    (whole : List Shape → Standing → Progress D) (one : List Shape → Standing → Progress B) (made : List Shape → B → D)
    (e : (later : List Shape) (before : Standing) → whole later before ≡ further (one later before) (λ behind first. goes_on behind (made later first))) where
  abbrev behind-single : List Shape → Standing → B → Progress D
  behind-single later behind first = goes_on behind (made later first)

  single-begins : Arrives old old whole (λ later behind. further (one later behind) (behind-single later))
  single-begins = starts old whole (λ later behind. further (one later behind) (behind-single later)) (λ later before stands lawful. e later before)

  pub single-fails : (new : Held) (fault : Stop) → Proceeds FitsA viewA source old new (Err fault) one → (result : Result C Stop) → IsErrAnd result (λ e. e ≡ fault) → Proceeds Fits seen source old new result whole
  single-fails new fault p result handed =
      relays Fits seen source old new whole result fault handed (fails FitsA viewA source old old new whole Fits seen one behind-single fault single-begins p)

  module _ (new : Held) (first : A) (p : Proceeds FitsA viewA source old new (Ok first) one) where
    single-left : Arrives old new whole (λ later behind. goes_on behind (made later (viewA later first)))
    single-left = passes FitsA viewA source old old new whole one behind-single first single-begins p

    pub single-dry : (result : Result C Stop) → IsErrAnd result (λ e. e ≡ stop.Memory) → Proceeds Fits seen source old new result whole
    single-dry result handed = runs-out Fits seen source old new whole result single-left.shapes handed

    pub single-made : (it : C) → ((later : List Shape) → Begins new.known.types.shapes later → seen later it ≡ made later (viewA later first)) → Fits new.known.types it → Proceeds Fits seen source old new (Ok it) whole
    single-made it is fits =
        done Fits seen source old new whole it
        (restated old new whole (λ later behind. goes_on behind (made later (viewA later first))) (λ later behind. goes_on behind (seen later it)) single-left
        (λ later on behind stands lawful. ap (goes_on behind) (sym (is later on)))) fits

-- ---- two calls

module _ {A B C D E F : Type 0} (FitsA : Table → A → Type 0) (viewA : List Shape → A → B) (FitsC : Table → C → Type 0) (viewC : List Shape → C → D) (Fits : Table → E → Type 0) (seen : List Shape → E → F)
    (source : Source) (old : Held) (whole : List Shape → Standing → Progress F) (one : List Shape → Standing → Progress B) (two : List Shape → B → Standing → Progress D) (made : List Shape → B → D → F)
    (e : (later : List Shape) (before : Standing) → whole later before ≡ further (one later before) (λ then_standing first. further (two later first then_standing) (λ behind second. goes_on behind (made later first second)))) where
  abbrev behind-first : List Shape → Standing → B → Progress F
  behind-first later then_standing first = further (two later first then_standing) (λ behind second. goes_on behind (made later first second))

  pair-begins : Arrives old old whole (λ later behind. further (one later behind) (behind-first later))
  pair-begins = starts old whole (λ later behind. further (one later behind) (behind-first later)) (λ later before stands lawful. e later before)

  pub pair-fails : (new : Held) (fault : Stop) → Proceeds FitsA viewA source old new (Err fault) one → (result : Result E Stop) → IsErrAnd result (λ e. e ≡ fault) → Proceeds Fits seen source old new result whole
  pair-fails new fault p result handed =
      relays Fits seen source old new whole result fault handed (fails FitsA viewA source old old new whole Fits seen one behind-first fault pair-begins p)

  module _ (mid : Held) (first : A) (p : Proceeds FitsA viewA source old mid (Ok first) one) where
    abbrev second-call : List Shape → Standing → Progress D
    second-call later standing = two later (viewA later first) standing

    abbrev behind-second : List Shape → Standing → D → Progress F
    behind-second later behind second = goes_on behind (made later (viewA later first) second)

    pair-then : Arrives old mid whole (λ later behind. further (second-call later behind) (behind-second later))
    pair-then = passes FitsA viewA source old old mid whole one behind-first first pair-begins p

    pub pair-fails-then : (new : Held) (fault : Stop) → Proceeds FitsC viewC source mid new (Err fault) second-call → (result : Result E Stop) → IsErrAnd result (λ e. e ≡ fault)
        → Proceeds Fits seen source old new result whole
    pair-fails-then new fault q result handed =
        relays Fits seen source old new whole result fault handed (fails FitsC viewC source old mid new whole Fits seen second-call behind-second fault pair-then q)

    module _ (new : Held) (second : C) (q : Proceeds FitsC viewC source mid new (Ok second) second-call) where
      pair-left : Arrives old new whole (λ later behind. goes_on behind (made later (viewA later first) (viewC later second)))
      pair-left = passes FitsC viewC source old mid new whole second-call behind-second second pair-then q

      pub pair-dry : (result : Result E Stop) → IsErrAnd result (λ e. e ≡ stop.Memory) → Proceeds Fits seen source old new result whole
      pair-dry result handed = runs-out Fits seen source old new whole result pair-left.shapes handed

      pub pair-made : (it : E) → ((later : List Shape) → Begins new.known.types.shapes later → seen later it ≡ made later (viewA later first) (viewC later second)) → Fits new.known.types it
          → Proceeds Fits seen source old new (Ok it) whole
      pair-made it is fits =
          done Fits seen source old new whole it
          (restated old new whole (λ later behind. goes_on behind (made later (viewA later first) (viewC later second))) (λ later behind. goes_on behind (seen later it)) pair-left
          (λ later on behind stands lawful. ap (goes_on behind) (sym (is later on)))) fits

-- ---- three calls

module _ {A B C D E F G H : Type 0} (FitsA : Table → A → Type 0) (viewA : List Shape → A → B) (FitsC : Table → C → Type 0) (viewC : List Shape → C → D) (FitsE : Table → E → Type 0) (viewE : List Shape → E → F)
    (Fits : Table → G → Type 0) (seen : List Shape → G → H) (source : Source) (old : Held) (whole : List Shape → Standing → Progress H)
    (one : List Shape → Standing → Progress B) (two : List Shape → Standing → Progress D) (three : List Shape → Standing → Progress F) (made : List Shape → B → D → F → H)
    (e : (later : List Shape) (before : Standing) → whole later before ≡ further (one later before) (λ then_standing first. further (two later then_standing) (λ then_more second.
    further (three later then_more) (λ behind third. goes_on behind (made later first second third))))) where
  abbrev after-first : List Shape → Standing → B → Progress H
  after-first later then_standing first = further (two later then_standing) (λ then_more second. further (three later then_more) (λ behind third. goes_on behind (made later first second third)))

  triple-begins : Arrives old old whole (λ later behind. further (one later behind) (after-first later))
  triple-begins = starts old whole (λ later behind. further (one later behind) (after-first later)) (λ later before stands lawful. e later before)

  pub triple-fails : (new : Held) (fault : Stop) → Proceeds FitsA viewA source old new (Err fault) one → (result : Result G Stop) → IsErrAnd result (λ e. e ≡ fault) → Proceeds Fits seen source old new result whole
  triple-fails new fault p result handed =
      relays Fits seen source old new whole result fault handed (fails FitsA viewA source old old new whole Fits seen one after-first fault triple-begins p)

  module _ (then_held : Held) (first : A) (p : Proceeds FitsA viewA source old then_held (Ok first) one) where
    abbrev after-second : List Shape → Standing → D → Progress H
    after-second later then_more second = further (three later then_more) (λ behind third. goes_on behind (made later (viewA later first) second third))

    triple-then : Arrives old then_held whole (λ later behind. further (two later behind) (after-second later))
    triple-then = passes FitsA viewA source old old then_held whole one after-first first triple-begins p

    pub triple-fails-then : (new : Held) (fault : Stop) → Proceeds FitsC viewC source then_held new (Err fault) two → (result : Result G Stop) → IsErrAnd result (λ e. e ≡ fault)
        → Proceeds Fits seen source old new result whole
    triple-fails-then new fault q result handed =
        relays Fits seen source old new whole result fault handed (fails FitsC viewC source old then_held new whole Fits seen two after-second fault triple-then q)

    module _ (more : Held) (second : C) (q : Proceeds FitsC viewC source then_held more (Ok second) two) where
      abbrev after-third : List Shape → Standing → F → Progress H
      after-third later behind third = goes_on behind (made later (viewA later first) (viewC later second) third)

      triple-more : Arrives old more whole (λ later behind. further (three later behind) (after-third later))
      triple-more = passes FitsC viewC source old then_held more whole two after-second second triple-then q

      pub triple-fails-last : (new : Held) (fault : Stop) → Proceeds FitsE viewE source more new (Err fault) three → (result : Result G Stop) → IsErrAnd result (λ e. e ≡ fault)
          → Proceeds Fits seen source old new result whole
      triple-fails-last new fault r result handed =
          relays Fits seen source old new whole result fault handed (fails FitsE viewE source old more new whole Fits seen three after-third fault triple-more r)

      module _ (new : Held) (third : E) (r : Proceeds FitsE viewE source more new (Ok third) three) where
        triple-left : Arrives old new whole (λ later behind. goes_on behind (made later (viewA later first) (viewC later second) (viewE later third)))
        triple-left = passes FitsE viewE source old more new whole three after-third third triple-more r

        pub triple-dry : (result : Result G Stop) → IsErrAnd result (λ e. e ≡ stop.Memory) → Proceeds Fits seen source old new result whole
        triple-dry result handed = runs-out Fits seen source old new whole result triple-left.shapes handed

        pub triple-made : (it : G) → ((later : List Shape) → Begins new.known.types.shapes later → seen later it ≡ made later (viewA later first) (viewC later second) (viewE later third)) → Fits new.known.types it
            → Proceeds Fits seen source old new (Ok it) whole
        triple-made it is fits =
            done Fits seen source old new whole it
            (restated old new whole (λ later behind. goes_on behind (made later (viewA later first) (viewC later second) (viewE later third))) (λ later behind. goes_on behind (seen later it)) triple-left
            (λ later on behind stands lawful. ap (goes_on behind) (sym (is later on)))) fits

-- ---- other ends

-- the table is the same
pub same-begins : (old new : Table) → new ≡ old → Begins old.shapes new.shapes
same-begins old new is = subst (λ (table : Table). Begins old.shapes table.shapes) (sym is) (begins-itself old.shapes)

-- `default` stood there before, or there is no memory
module _ {C D : Type 0} (Fits : Table → C → Type 0) (seen : List Shape → C → D) (source : Source) (old : Held) (whole : List Shape → Standing → Progress D) (labels : List (Option ℤ)) (at : ℕ)
    (again : (later : List Shape) (before : Standing) → is_label_among None labels ≡ true → whole later before ≡ stops 31 at) where
  pub default-fails : (fault : Stop) → AddsDefault source labels at (Err fault) → Proceeds Fits seen source old old (Err fault) whole
  default-fails stop.Memory adds = starves Fits seen source old old whole stop.Memory (begins-itself old.known.types.shapes) refl
  default-fails (stop.Refused refusal) adds =
      stops-there Fits seen source old old whole 31 at (stop.Refused refusal) (starts old whole (λ later behind. stops 31 at) (λ later before stands lawful. again later before adds.0)) (ap stop.Refused adds.1)
  default-fails (stop.Limit limit) adds = absurd adds
  default-fails (stop.ReadFault file) adds = absurd adds
