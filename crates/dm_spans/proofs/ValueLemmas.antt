-- What initialises an object with static storage does so where all nodes of the expression stand at one place.
use Rattle.std.specs.Prelude.{◌≡◌, refl, ◌⊎◌, ℕ, Bool, true, false, ◌&&◌, ◌==◌, if◌then◌else◌, List, [], ◌∷◌, Option, Some, None, is_some, IsSome, slice_get, pos}
use Rattle.std.proofs.Common.{ap, sym, ◌∙◌, subst, inl, inr, true≢false}
use Rattle.std.proofs.lemmas.Bool.{eq-eqb}
use Rattle.dm_int.specs.declared.Op.TheVariants as o
use Rattle.dm_token.specs.declared.place.Span.{Span}
use Rattle.dm_type.specs.CTypes.{CType, void, pointer}
use Rattle.dm_tree.specs.Constants.{is_constant_form, constant_forms, has_constant_form, integer_kind, constant_value}
use Rattle.dm_tree.specs.Initialisers.{is_same_span, shares_tokens, unconverted, Reach, nowhere, place, start, element_address, reach_of_object, subscripted, is_fixed, reach_at, reach, reaches, IsAddressConstant, IsNullConstant, IsStaticValue}
use Rattle.dm_tree.specs.Scenes.{Scene, constant_of, IsZero}
use Rattle.dm_tree.specs.Trees.{Label, Spans, Tree, Trees, node, no_trees, more_trees, label_of, kind_of, spans_of, trees_of, is_statement, listed}
use Rattle.dm_tree.specs.Trees as label
use Rattle.dm_tree.specs.Units.{Declaration}
use Rattle.dm_spans.specs.SameTrees.{IsSame, AreSame}
use Rattle.dm_spans.specs.MovedPrograms.{StandAt, AllStandAt}
use Rattle.dm_spans.proofs.FactLemmas.{same_label, same_constant, zero_too}

one_span : (at : Span) → is_same_span at at ≡ true
one_span at = ap (λ b. b && (at.after == at.after)) (eq-eqb at.first at.first refl) ∙ eq-eqb at.after at.after refl

stands : (at : Spans) (tree : Tree) → StandAt at tree → spans_of tree ≡ at
stands at (node form kind spans parts) s = s.0

shares : (at : Spans) (tree : Tree) → StandAt at tree → shares_tokens at tree ≡ true
shares at tree s = ap (λ (p : Spans). is_same_span at.inner p.inner) (stands at tree s) ∙ one_span at.inner

module _ (scene : Scene) where
  -- ---- null pointer constants

  zero_form : (tree : Tree) → IsZero scene tree → is_constant_form tree ≡ true
  zero_form tree z = by (is_constant_form tree) z
    where
      by : (b : Bool) → (if b then constant_value scene.types scene.declared tree else None) ≡ Some (pos 0) → b ≡ true
      by true e = refl
      by false e = absurd (cc)

  -- 0 is one by itself
  zero_null : (tree : Tree) → IsZero scene tree → IsNullConstant scene tree
  zero_null (node label.convert (pointer void) spans (more_trees operand rest)) z = absurd (true≢false (sym (zero_form (node label.convert (pointer void) spans (more_trees operand rest)) z)))
  zero_null tree z = z

  null_at : (form : Label) (kind : CType) (spans other_spans : Spans) (parts others : Trees) → AreSame parts others → IsNullConstant scene (node form kind spans parts) → IsNullConstant scene (node form kind other_spans others)
  null_at label.convert (pointer void) spans other_spans (more_trees operand rest) (more_trees other others) h n = zero_too scene operand other h.0 n
  null_at label.convert (pointer void) spans other_spans (more_trees operand rest) no_trees h n = absurd h
  null_at label.convert (pointer void) spans other_spans no_trees (more_trees other others) h n = absurd h
  null_at form kind spans other_spans parts others h n = zero_too scene (node form kind spans parts) (node form kind other_spans others) (refl, refl, h) n

  null_too : (tree other : Tree) → IsSame tree other → IsNullConstant scene tree → IsNullConstant scene other
  null_too (node form kind spans parts) (node other other_kind other_spans others) h n =
      subst (λ l. IsNullConstant scene (node l other_kind other_spans others)) (sym h.0) (subst (λ k. IsNullConstant scene (node form k other_spans others)) (sym h.1) (null_at form kind spans other_spans parts others h.2 n))

  -- ---- address constants

  -- it reaches no less
  abbrev Covers : Reach → Reach → Type 0
  Covers nowhere r = Unit {0}
  Covers place r = r ≡ place
  Covers start r = r ≡ start
  Covers element_address r = r ≡ element_address

  abbrev AllCover : List Reach → List Reach → Type 0
  AllCover [] [] = Unit {0}
  AllCover (r ∷ rs) (s ∷ ss) = Covers r s × AllCover rs ss
  AllCover rs ss = ⊥

  covers_itself : (r : Reach) → Covers r r
  covers_itself nowhere = tt
  covers_itself place = refl
  covers_itself start = refl
  covers_itself element_address = refl

  not_start : nowhere ≡ start → ⊥
  not_start e = cc

  subscript_not_start : (tree : Tree) → subscripted scene tree ≡ start → ⊥
  subscript_not_start tree e = by (is_some (constant_of scene tree)) e
    where
      by : (b : Bool) → (if b then element_address else nowhere) ≡ start → ⊥
      by true e = cc
      by false e = cc

  object_not_start : (one : Option Declaration) → reach_of_object one ≡ start → ⊥
  object_not_start None e = cc
  object_not_start (Some entry) e = by (is_fixed entry.sort) e
    where
      by : (b : Bool) → (if b then place else nowhere) ≡ start → ⊥
      by true e = cc
      by false e = cc

  start_decays : (form : Label) (spans : Spans) (parts : List Tree) (rs : List Reach) → reach_at scene form spans parts rs ≡ start → form ≡ label.decay
  start_decays (label.object at) spans parts rs e = absurd (object_not_start (slice_get scene.declared at) e)
  start_decays (label.literal bytes unit) spans parts rs e = absurd (cc)
  start_decays (label.member n) spans parts (place ∷ rest) e = absurd (cc)
  start_decays label.decay spans parts rs e = refl
  start_decays (label.binary o.Add) spans (left ∷ right ∷ []) (start ∷ rest) e = absurd (subscript_not_start right e)
  start_decays (label.binary o.Add) spans (left ∷ right ∷ []) (first ∷ start ∷ rest) e = absurd (subscript_not_start left e)
  start_decays label.follow spans (sum ∷ []) (element_address ∷ rest) e = absurd (by (shares_tokens spans sum) e)
    where
      by : (b : Bool) → (if b then place else nowhere) ≡ start → ⊥
      by true e = cc
      by false e = cc
  start_decays form spans parts rs e = absurd (not_start e)

  decay_none : (b : Bool) → (b && false) ≡ false
  decay_none true = refl
  decay_none false = refl

  -- a decayed array is no constant subscript
  decay_unsubscripted : (tree : Tree) → label_of tree ≡ label.decay → subscripted scene tree ≡ nowhere
  decay_unsubscripted (node form kind spans parts) e =
      ap (λ b. if is_some (if b then constant_value scene.types scene.declared (node form kind spans parts) else None) then element_address else nowhere)
      (ap (λ l. has_constant_form l kind (constant_forms parts)) e ∙ decay_none (is_some (integer_kind kind)))

  start_unsubscripted : (tree other : Tree) → IsSame tree other → reach scene other ≡ start → subscripted scene tree ≡ nowhere
  start_unsubscripted tree (node other kind spans parts) h e = decay_unsubscripted tree (sym (same_label tree (node other kind spans parts) h) ∙ start_decays other spans (listed parts) (reaches scene parts) e)

  same_subscript : (tree other : Tree) → IsSame tree other → subscripted scene other ≡ subscripted scene tree
  same_subscript tree other h = ap (λ o. if is_some o then element_address else nowhere) (same_constant scene.types scene.declared tree other h)

  covers_same : (r s : Reach) → s ≡ r → Covers r s
  covers_same r s e = subst (Covers r) (sym e) (covers_itself r)

  add_covers : (spans at : Spans) (left right one other : Tree) → IsSame left one → IsSame right other → (r1 r2 s1 s2 : Reach) → reach scene one ≡ s1 → Covers r1 s1 → Covers r2 s2
      → Covers (reach_at scene (label.binary o.Add) spans (left ∷ right ∷ []) (r1 ∷ r2 ∷ [])) (reach_at scene (label.binary o.Add) at (one ∷ other ∷ []) (s1 ∷ s2 ∷ []))
  add_covers spans at left right one other h k r1 r2 s1 s2 e c d = by r1 r2 s1 s2 e c d
    where
      of_left : (s1 : Reach) → reach scene one ≡ s1 → Covers (subscripted scene left) (reach_at scene (label.binary o.Add) at (one ∷ other ∷ []) (s1 ∷ start ∷ []))
      of_left start e = subst (λ r. Covers r (subscripted scene other)) (sym (start_unsubscripted left one h e)) tt
      of_left nowhere e = covers_same (subscripted scene left) (subscripted scene one) (same_subscript left one h)
      of_left place e = covers_same (subscripted scene left) (subscripted scene one) (same_subscript left one h)
      of_left element_address e = covers_same (subscripted scene left) (subscripted scene one) (same_subscript left one h)

      second : (s1 s2 : Reach) → reach scene one ≡ s1 → s2 ≡ start → Covers (subscripted scene left) (reach_at scene (label.binary o.Add) at (one ∷ other ∷ []) (s1 ∷ s2 ∷ []))
      second s1 s2 e d = subst (λ s. Covers (subscripted scene left) (reach_at scene (label.binary o.Add) at (one ∷ other ∷ []) (s1 ∷ s ∷ []))) (sym d) (of_left s1 e)

      by : (r1 r2 s1 s2 : Reach) → reach scene one ≡ s1 → Covers r1 s1 → Covers r2 s2
          → Covers (reach_at scene (label.binary o.Add) spans (left ∷ right ∷ []) (r1 ∷ r2 ∷ [])) (reach_at scene (label.binary o.Add) at (one ∷ other ∷ []) (s1 ∷ s2 ∷ []))
      by start r2 s1 s2 e c d =
          subst (λ s. Covers (subscripted scene right) (reach_at scene (label.binary o.Add) at (one ∷ other ∷ []) (s ∷ s2 ∷ []))) (sym c)
          (covers_same (subscripted scene right) (subscripted scene other) (same_subscript right other k))
      by nowhere start s1 s2 e c d = second s1 s2 e d
      by place start s1 s2 e c d = second s1 s2 e d
      by element_address start s1 s2 e c d = second s1 s2 e d
      by nowhere nowhere s1 s2 e c d = tt
      by nowhere place s1 s2 e c d = tt
      by nowhere element_address s1 s2 e c d = tt
      by place nowhere s1 s2 e c d = tt
      by place place s1 s2 e c d = tt
      by place element_address s1 s2 e c d = tt
      by element_address nowhere s1 s2 e c d = tt
      by element_address place s1 s2 e c d = tt
      by element_address element_address s1 s2 e c d = tt

  member_covers : (n : ℕ) (spans at : Spans) (xs ys : List Tree) (r s : Reach) (rs ss : List Reach) → Covers r s → Covers (reach_at scene (label.member n) spans xs (r ∷ rs)) (reach_at scene (label.member n) at ys (s ∷ ss))
  member_covers n spans at xs ys place s rs ss c = subst (λ s. Covers place (reach_at scene (label.member n) at ys (s ∷ ss))) (sym c) refl
  member_covers n spans at xs ys nowhere s rs ss c = tt
  member_covers n spans at xs ys start s rs ss c = tt
  member_covers n spans at xs ys element_address s rs ss c = tt

  decay_covers : (spans at : Spans) (xs ys : List Tree) (r s : Reach) (rs ss : List Reach) → Covers r s → Covers (reach_at scene label.decay spans xs (r ∷ rs)) (reach_at scene label.decay at ys (s ∷ ss))
  decay_covers spans at xs ys place s rs ss c = subst (λ s. Covers start (reach_at scene label.decay at ys (s ∷ ss))) (sym c) refl
  decay_covers spans at xs ys nowhere s rs ss c = tt
  decay_covers spans at xs ys start s rs ss c = tt
  decay_covers spans at xs ys element_address s rs ss c = tt

  follow_covers : (spans at : Spans) (sum other : Tree) → StandAt at other → (r s : Reach) → Covers r s → Covers (reach_at scene label.follow spans (sum ∷ []) (r ∷ [])) (reach_at scene label.follow at (other ∷ []) (s ∷ []))
  follow_covers spans at sum other stand element_address s c =
      subst (λ s. Covers (if shares_tokens spans sum then place else nowhere) (reach_at scene label.follow at (other ∷ []) (s ∷ []))) (sym c)
      (subst (λ b. Covers (if shares_tokens spans sum then place else nowhere) (if b then place else nowhere)) (sym (shares at other stand)) (by (shares_tokens spans sum)))
    where
      by : (b : Bool) → Covers (if b then place else nowhere) place
      by true = refl
      by false = tt
  follow_covers spans at sum other stand nowhere s c = tt
  follow_covers spans at sum other stand place s c = tt
  follow_covers spans at sum other stand start s c = tt

  covers_at : (form : Label) (spans at : Spans) (parts others : Trees) → AreSame parts others → AllStandAt at others → AllCover (reaches scene parts) (reaches scene others)
      → Covers (reach_at scene form spans (listed parts) (reaches scene parts)) (reach_at scene form at (listed others) (reaches scene others))
  covers_at (label.object d) spans at parts others h stand c = covers_itself (reach_of_object (slice_get scene.declared d))
  covers_at (label.literal bytes unit) spans at parts others h stand c = refl
  covers_at (label.member n) spans at no_trees others h stand c = tt
  covers_at (label.member n) spans at (more_trees first rest) no_trees h stand c = absurd h
  covers_at (label.member n) spans at (more_trees first rest) (more_trees other others) h stand c =
      member_covers n spans at (first ∷ listed rest) (other ∷ listed others) (reach scene first) (reach scene other) (reaches scene rest) (reaches scene others) c.0
  covers_at label.decay spans at no_trees others h stand c = tt
  covers_at label.decay spans at (more_trees first rest) no_trees h stand c = absurd h
  covers_at label.decay spans at (more_trees first rest) (more_trees other others) h stand c =
      decay_covers spans at (first ∷ listed rest) (other ∷ listed others) (reach scene first) (reach scene other) (reaches scene rest) (reaches scene others) c.0
  covers_at (label.binary o.Add) spans at no_trees others h stand c = tt
  covers_at (label.binary o.Add) spans at (more_trees left no_trees) others h stand c = tt
  covers_at (label.binary o.Add) spans at (more_trees left (more_trees right no_trees)) no_trees h stand c = absurd h
  covers_at (label.binary o.Add) spans at (more_trees left (more_trees right no_trees)) (more_trees one no_trees) h stand c = absurd h.1
  covers_at (label.binary o.Add) spans at (more_trees left (more_trees right no_trees)) (more_trees one (more_trees other no_trees)) h stand c =
      add_covers spans at left right one other h.0 h.1.0 (reach scene left) (reach scene right) (reach scene one) (reach scene other) refl c.0 c.1.0
  covers_at (label.binary o.Add) spans at (more_trees left (more_trees right no_trees)) (more_trees one (more_trees other (more_trees third others))) h stand c = absurd h.1.1
  covers_at (label.binary o.Add) spans at (more_trees left (more_trees right (more_trees third rest))) others h stand c = tt
  covers_at label.follow spans at no_trees others h stand c = tt
  covers_at label.follow spans at (more_trees sum no_trees) no_trees h stand c = absurd h
  covers_at label.follow spans at (more_trees sum no_trees) (more_trees other no_trees) h stand c = follow_covers spans at sum other stand.0 (reach scene sum) (reach scene other) c.0
  covers_at label.follow spans at (more_trees sum no_trees) (more_trees other (more_trees next others)) h stand c = absurd h.1
  covers_at label.follow spans at (more_trees sum (more_trees next rest)) others h stand c = tt
  covers_at form spans at parts others h stand c = tt

  mutual
    reach_covers : (at : Spans) (tree other : Tree) → IsSame tree other → StandAt at other → Covers (reach scene tree) (reach scene other)
    reach_covers at (node form kind spans parts) (node other other_kind other_spans others) h stand =
        subst (λ l. Covers (reach_at scene form spans (listed parts) (reaches scene parts)) (reach_at scene l other_spans (listed others) (reaches scene others))) (sym h.0)
        (subst (λ s. Covers (reach_at scene form spans (listed parts) (reaches scene parts)) (reach_at scene form s (listed others) (reaches scene others))) (sym stand.0)
        (covers_at form spans at parts others h.2 stand.1 (reaches_cover at parts others h.2 stand.1)))

    reaches_cover : (at : Spans) (trees others : Trees) → AreSame trees others → AllStandAt at others → AllCover (reaches scene trees) (reaches scene others)
    reaches_cover at no_trees no_trees h stand = tt
    reaches_cover at no_trees (more_trees other others) h stand = absurd h
    reaches_cover at (more_trees first rest) no_trees h stand = absurd h
    reaches_cover at (more_trees first rest) (more_trees other others) h stand = (reach_covers at first other h.0 stand.0, reaches_cover at rest others h.1 stand.1)

  reached_too : (at : Spans) (tree other : Tree) → IsSame tree other → StandAt at other → (r : Reach) → reach scene tree ≡ r → Covers r (reach scene other)
  reached_too at tree other h stand r e = subst (λ r. Covers r (reach scene other)) e (reach_covers at tree other h stand)

  address_at : (form : Label) (kind : CType) (spans at : Spans) (parts others : Trees) → AreSame parts others → AllStandAt at others → IsAddressConstant scene (node form kind spans parts) → IsAddressConstant scene (node form kind at others)
  address_at label.address kind spans at (more_trees operand no_trees) (more_trees other no_trees) h stand a = reached_too at operand other h.0 stand.0 place a
  address_at label.address kind spans at (more_trees operand no_trees) no_trees h stand a = absurd h
  address_at label.address kind spans at (more_trees operand no_trees) (more_trees other (more_trees next others)) h stand a = absurd h.1
  address_at label.address kind spans at no_trees others h stand a = absurd (not_start a)
  address_at label.address kind spans at (more_trees operand (more_trees next rest)) others h stand a = absurd (not_start a)
  address_at form kind spans at parts others h stand a = reached_too at (node form kind spans parts) (node form kind at others) (refl, refl, h) (refl, stand) start a

  address_too : (at : Spans) (tree other : Tree) → IsSame tree other → StandAt at other → IsAddressConstant scene tree → IsAddressConstant scene other
  address_too at (node form kind spans parts) (node other other_kind other_spans others) h stand a =
      subst (λ l. IsAddressConstant scene (node l other_kind other_spans others)) (sym h.0)
      (subst (λ k. IsAddressConstant scene (node form k other_spans others)) (sym h.1)
      (subst (λ s. IsAddressConstant scene (node form kind s others)) (sym stand.0) (address_at form kind spans at parts others h.2 stand.1 a)))

  -- ---- values

  abbrev IsStaticPart : Tree → Type 0
  IsStaticPart tree = IsNullConstant scene tree ⊎ IsAddressConstant scene tree

  static_part : (at : Spans) (tree other : Tree) → IsSame tree other → StandAt at other → IsStaticPart tree → IsStaticPart other
  static_part at tree other h stand (inl n) = inl (null_too tree other h n)
  static_part at tree other h stand (inr a) = inr (address_too at tree other h stand a)

  some_too : (tree other : Tree) → IsSame tree other → IsSome (constant_of scene tree) → IsSome (constant_of scene other)
  some_too tree other h c = subst (λ o. IsSome o) (sym (same_constant scene.types scene.declared tree other h)) c

  zero_some : (tree : Tree) → IsZero scene tree → IsSome (constant_of scene tree)
  zero_some tree z = subst (λ o. IsSome o) (sym z) refl

  -- a conversion of a part that stands where it does is an implied one
  converted : (kind : CType) (spans at : Spans) (operand other : Tree) → IsSame operand other → StandAt at other
      → IsStaticPart (unconverted (node label.convert kind spans (more_trees operand no_trees))) → IsStaticValue scene (node label.convert kind at (more_trees other no_trees))
  converted kind spans at operand other h stand u = by (shares_tokens spans operand) u
    where
      old : Tree
      old = node label.convert kind spans (more_trees operand no_trees)

      new : Tree
      new = node label.convert kind at (more_trees other no_trees)

      back : IsStaticPart other → IsStaticValue scene new
      back x = inr (subst (λ b. IsStaticPart (if b then other else new)) (sym (shares at other stand)) x)

      kept : (kind : CType) → IsNullConstant scene (node label.convert kind spans (more_trees operand no_trees)) → IsZero scene operand ⊎ IsZero scene (node label.convert kind spans (more_trees operand no_trees))
      kept (pointer void) n = inl n
      kept kind n = inr n

      by_zero : IsZero scene operand ⊎ IsZero scene old → IsStaticValue scene new
      by_zero (inl z) = back (inl (zero_null other (zero_too scene operand other h z)))
      by_zero (inr z) = inl (some_too old new (refl, refl, (h, tt)) (zero_some old z))

      by : (b : Bool) → IsStaticPart (if b then operand else old) → IsStaticValue scene new
      by true x = back (static_part at operand other h stand x)
      by false (inl n) = by_zero (kept kind n)
      by false (inr a) = absurd (not_start a)

  static_at : (form : Label) (kind : CType) (spans at : Spans) (parts others : Trees) → AreSame parts others → AllStandAt at others
      → IsStaticPart (unconverted (node form kind spans parts)) → IsStaticValue scene (node form kind at others)
  static_at label.convert kind spans at (more_trees operand no_trees) (more_trees other no_trees) h stand u = converted kind spans at operand other h.0 stand.0 u
  static_at label.convert kind spans at (more_trees operand no_trees) no_trees h stand u = absurd h
  static_at label.convert kind spans at (more_trees operand no_trees) (more_trees other (more_trees next others)) h stand u = absurd h.1
  static_at label.convert kind spans at no_trees no_trees h stand u = inr (static_part at (node label.convert kind spans no_trees) (node label.convert kind at no_trees) (refl, refl, tt) (refl, tt) u)
  static_at label.convert kind spans at no_trees (more_trees other others) h stand u = absurd h
  static_at label.convert kind spans at (more_trees operand (more_trees next rest)) no_trees h stand u = absurd h
  static_at label.convert kind spans at (more_trees operand (more_trees next rest)) (more_trees other no_trees) h stand u = absurd h.1
  static_at label.convert kind spans at (more_trees operand (more_trees next rest)) (more_trees other (more_trees second others)) h stand u =
      inr (static_part at (node label.convert kind spans (more_trees operand (more_trees next rest))) (node label.convert kind at (more_trees other (more_trees second others))) (refl, refl, h) (refl, stand) u)
  static_at form kind spans at parts others h stand u = inr (static_part at (node form kind spans parts) (node form kind at others) (refl, refl, h) (refl, stand) u)

  pub static_too : (tree other : Tree) → IsSame tree other → AllStandAt (spans_of other) (trees_of other) → IsStaticValue scene tree → IsStaticValue scene other
  static_too tree other h stand (inl c) = inl (some_too tree other h c)
  static_too (node form kind spans parts) (node other other_kind at others) h stand (inr u) =
      subst (λ l. IsStaticValue scene (node l other_kind at others)) (sym h.0) (subst (λ k. IsStaticValue scene (node form k at others)) (sym h.1) (static_at form kind spans at parts others h.2 stand u))
