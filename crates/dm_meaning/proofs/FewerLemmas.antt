-- A step of a node beside fewer locks is the same step, unless it is undefined beside all of them.
use Rattle.std.specs.Prelude.{◌≡◌, refl, ◌⊎◌, Bool, true, false, if◌then◌else◌, List, [], ◌∷◌, ◌++◌}
use Rattle.std.proofs.Common.{ap, sym, ◌∙◌, inl, inr}
use Rattle.dm_int.specs.declared.Op.{Op}
use Rattle.dm_type.specs.CTypes.{CType}
use Rattle.dm_tree.specs.Trees.{Label, read, store, update, count}
use Rattle.dm_meaning.specs.declared.cause.Cause.{Cause}
use Rattle.dm_meaning.specs.Values.{At}
use Rattle.dm_meaning.specs.Memory.{Memory, contents_at}
use Rattle.dm_meaning.specs.Programs.{layout}
use Rattle.dm_meaning.specs.Causes.{is_unset, read_causes, store_causes, update_causes}
use Rattle.dm_meaning.specs.Operations.{Result, of_value, designates, Operand, World, Scene, Did, breaks, ill, store_at, unless, updated, counted, operate}
use Rattle.dm_meaning.specs.Extending.{HasAll, AreAmong}
use Rattle.dm_meaning.proofs.ExtendLemmas.{read_same, store_same}

-- the second is the first, unless that is undefined
abbrev pub SameDid : Did → Did → Type 0
SameDid did other = (did ≡ other) ⊎ ((cause : Cause) × (did ≡ breaks cause))

nil_left : {A : Type 0} (xs ys : List A) → xs ++ ys ≡ [] → xs ≡ []
nil_left [] ys e = refl
nil_left (x ∷ xs) ys e = absurd (cc)

nil_right : {A : Type 0} (xs ys : List A) → xs ++ ys ≡ [] → ys ≡ []
nil_right [] ys e = e
nil_right (x ∷ xs) ys e = absurd (cc)

fewer_causes : (causes fewer : List Cause) (did : Did) → (causes ≡ [] → fewer ≡ []) → SameDid (unless causes did) (unless fewer did)
fewer_causes [] fewer did h = inl (sym (ap (λ l. unless l did) (h refl)))
fewer_causes (cause ∷ causes) fewer did h = inr (_, refl)

keeps_all : (memory : Memory) → HasAll memory memory
keeps_all memory n block e = e

module _ (scene : Scene) (world : World) (locks fewer : List At) (among : AreAmong fewer locks) where
  read_here : (kind : CType) (operands : List Operand) → SameDid (operate scene world locks read kind operands) (operate scene world fewer read kind operands)
  read_here kind [] = inl refl
  read_here kind (a ∷ b ∷ rest) = inl refl
  read_here kind (a ∷ []) = at_place a.result
    where
      at_place : (result : Result) → SameDid (operate scene world locks read kind (record { kind = a.kind; result = result } ∷ [])) (operate scene world fewer read kind (record { kind = a.kind; result = result } ∷ []))
      at_place (of_value value) = inl refl
      at_place (designates at) =
          fewer_causes (read_causes (layout scene.program) world.memory locks kind at) (read_causes (layout scene.program) world.memory fewer kind at) _
          (λ e. (read_same (layout scene.program) world.memory world.memory locks fewer kind at (keeps_all world.memory) among e).0)

  store_here : (kind : CType) (operands : List Operand) → SameDid (operate scene world locks store kind operands) (operate scene world fewer store kind operands)
  store_here kind [] = inl refl
  store_here kind (a ∷ []) = inl refl
  store_here kind (a ∷ b ∷ c ∷ rest) = inl refl
  store_here kind (a ∷ b ∷ []) = at_place a.result b.result
    where
      at_place : (result other : Result) → SameDid (operate scene world locks store kind (record { kind = a.kind; result = result } ∷ record { kind = b.kind; result = other } ∷ []))
          (operate scene world fewer store kind (record { kind = a.kind; result = result } ∷ record { kind = b.kind; result = other } ∷ []))
      at_place (of_value value) other = inl refl
      at_place (designates at) (designates other) = inl refl
      at_place (designates at) (of_value value) = by_set (is_unset value)
        where
          by_set : (b : Bool) → SameDid (if b then ill else store_at scene world locks kind at value) (if b then ill else store_at scene world fewer kind at value)
          by_set true = inl refl
          by_set false =
              fewer_causes (store_causes (layout scene.program) world.memory locks kind at) (store_causes (layout scene.program) world.memory fewer kind at) _
              (λ e. store_same (layout scene.program) world.memory world.memory locks fewer kind at (keeps_all world.memory) among e)

  update_same : (kind : CType) (at : At) → update_causes (layout scene.program) world.memory locks kind at ≡ [] → update_causes (layout scene.program) world.memory fewer kind at ≡ []
  update_same kind at e =
      let reads = read_causes (layout scene.program) world.memory locks kind at in
      let stores = store_causes (layout scene.program) world.memory locks kind at in
      ap (λ l. l ++ store_causes (layout scene.program) world.memory fewer kind at) (read_same (layout scene.program) world.memory world.memory locks fewer kind at (keeps_all world.memory) among (nil_left reads stores e)).0
      ∙ store_same (layout scene.program) world.memory world.memory locks fewer kind at (keeps_all world.memory) among (nil_right reads stores e)

  made_same : (kind : CType) (at : At) (made : List Cause) (did : Did)
      → SameDid (unless (made ++ update_causes (layout scene.program) world.memory locks kind at) did) (unless (made ++ update_causes (layout scene.program) world.memory fewer kind at) did)
  made_same kind at made did =
      let updates = update_causes (layout scene.program) world.memory locks kind at in
      fewer_causes (made ++ updates) (made ++ update_causes (layout scene.program) world.memory fewer kind at) did
      (λ e. ap (λ l. l ++ update_causes (layout scene.program) world.memory fewer kind at) (nil_left made updates e) ∙ update_same kind at (nil_right made updates e))

  update_here : (op : Op) (works kind : CType) (operands : List Operand) → SameDid (operate scene world locks (update op works) kind operands) (operate scene world fewer (update op works) kind operands)
  update_here op works kind [] = inl refl
  update_here op works kind (a ∷ []) = inl refl
  update_here op works kind (a ∷ b ∷ c ∷ rest) = inl refl
  update_here op works kind (a ∷ b ∷ []) = at_place a.result b.result
    where
      at_place : (result other : Result) → SameDid (operate scene world locks (update op works) kind (record { kind = a.kind; result = result } ∷ record { kind = b.kind; result = other } ∷ []))
          (operate scene world fewer (update op works) kind (record { kind = a.kind; result = result } ∷ record { kind = b.kind; result = other } ∷ []))
      at_place (of_value value) other = inl refl
      at_place (designates at) (designates other) = inl refl
      at_place (designates at) (of_value value) = made_same kind at (updated scene world kind op works (contents_at world.memory at) value).causes _

  count_here : (plus before : Bool) (kind : CType) (operands : List Operand) → SameDid (operate scene world locks (count plus before) kind operands) (operate scene world fewer (count plus before) kind operands)
  count_here plus before kind [] = inl refl
  count_here plus before kind (a ∷ b ∷ rest) = inl refl
  count_here plus before kind (a ∷ []) = at_place a.result
    where
      at_place : (result : Result) → SameDid (operate scene world locks (count plus before) kind (record { kind = a.kind; result = result } ∷ [])) (operate scene world fewer (count plus before) kind (record { kind = a.kind; result = result } ∷ []))
      at_place (of_value value) = inl refl
      at_place (designates at) = made_same kind at (counted scene world kind plus (contents_at world.memory at)).causes _

  -- The step of a node whose operands are evaluated.
  pub operate_fewer : (label : Label) (kind : CType) (operands : List Operand) → SameDid (operate scene world locks label kind operands) (operate scene world fewer label kind operands)
  operate_fewer read kind operands = read_here kind operands
  operate_fewer store kind operands = store_here kind operands
  operate_fewer (update op works) kind operands = update_here op works kind operands
  operate_fewer (count plus before) kind operands = count_here plus before kind operands
  operate_fewer label kind operands = inl refl
