-- Loops over lists of syntax: what the parts so far and the rest come to together is the whole.
use Rattle.std.specs.Prelude.{◌≡◌, ℕ, suc, ◌+◌, ◌<◌, ◌≤◌, ℤ, Bool, List, [], ◌∷◌, ◌++◌, length, drop, refl}
use Rattle.std.proofs.Common.{sym, ap, append_assoc, append-nil, get_or, drop-cons, drop_of_length-le, add-one}
use Rattle.dm_syn.specs.Trees.{Expr, Exprs, Words, Specifier, Members, Member, Declarators, Declarator, Enumerators, Enumerator, Parameters, Parameter}
use Rattle.dm_syn.specs.Trees as tree
use Rattle.dm_syn.specs.Spans.{declarator_span}
use Rattle.dm_syn.specs.Scopes.{declarator_name}
use Rattle.dm_tree.specs.Trees.{Tree}
use Rattle.dm_type.specs.CTypes.{CType}
use Rattle.dm_typing.specs.Known.{Known, Setting, Outcome, given, broken, after, with_it}
use Rattle.dm_typing.specs.Conversions.{as_value}
use Rattle.dm_typing.specs.Specifiers.{Said}
use Rattle.dm_eexpr.specs.Parts.{valued, field_with}
use Rattle.dm_typing.specs.Typing.{Step, TypedMember, TypedParameter, typed, typed_values, words_said, word_said, fields_of, fields_declared, fields_with, enumerators_of, enumerator_of, parameters_of, parameter_of, steps_of, derived, typed_field}

-- a list behind others
abbrev pub onward : {A : Type 0} → List A → Outcome (List A) → Outcome (List A)
onward before outcome = with_it outcome (λ behind rest. before ++ rest)

pub onward-none : {A : Type 0} (outcome : Outcome (List A)) → outcome ≡ onward [] outcome
onward-none (given known list) = refl
onward-none (broken rule at) = refl

pub onward-end : {A : Type 0} (known : Known) (before : List A) → onward before (given known []) ≡ given known before
onward-end known before = ap (given known) (append-nil before)

onward-more : {A : Type 0} (before : List A) (it : A) (rest : Outcome (List A)) → onward before (with_it rest (λ behind list. it ∷ list)) ≡ onward (before ++ it ∷ []) rest
onward-more before it (given known list) = ap (given known) (sym (append_assoc before (it ∷ []) list))
onward-more before it (broken rule at) = refl

values-more : (before : List Tree) (one : Outcome Tree) (rest : Known → Outcome (List Tree))
    → onward before (after one (λ then_known made. after (rest then_known) (λ behind values. given behind (as_value made ∷ values))))
    ≡ after (valued one) (λ then_known value. onward (before ++ value ∷ []) (rest then_known))
values-more before (broken rule at) rest = refl
values-more before (given then_known made) rest = go (rest then_known)
  where
    go : (outcome : Outcome (List Tree)) → onward before (after outcome (λ behind values. given behind (as_value made ∷ values))) ≡ onward (before ++ as_value made ∷ []) outcome
    go (given behind list) = ap (given behind) (sym (append_assoc before (as_value made ∷ []) list))
    go (broken rule at) = refl

parameters-more : (before : List TypedParameter) (one : Outcome TypedParameter) (rest : Known → Outcome (List TypedParameter))
    → onward before (after one (λ then_known made. with_it (rest then_known) (λ behind list. made ∷ list))) ≡ after one (λ then_known made. onward (before ++ made ∷ []) (rest then_known))
parameters-more before (broken rule at) rest = refl
parameters-more before (given then_known made) rest = onward-more before made (rest then_known)

module _ (setting : Setting) (used : Bool) (known : Known) where
  pub values-end : (before : List Tree) → onward before (typed_values setting used known tree.no_exprs) ≡ given known before
  unfolding typed_values
  values-end before = onward-end known before

  pub values-next : (before : List Tree) (first : Expr) (others : Exprs) → onward before (typed_values setting used known (tree.more_exprs first others))
      ≡ after (valued (typed setting used known first)) (λ then_known value. onward (before ++ value ∷ []) (typed_values setting used then_known others))
  unfolding typed_values
  values-next before first others = values-more before (typed setting used known first) (λ then_known. typed_values setting used then_known others)

  pub parameters-end : (before : List TypedParameter) → onward before (parameters_of setting used known tree.no_parameters) ≡ given known before
  unfolding parameters_of
  parameters-end before = onward-end known before

  pub parameters-next : (before : List TypedParameter) (first : Parameter) (others : Parameters) → onward before (parameters_of setting used known (tree.more_parameters first others))
      ≡ after (parameter_of setting used known first) (λ then_known made. onward (before ++ made ∷ []) (parameters_of setting used then_known others))
  unfolding parameters_of
  parameters-next before first others = parameters-more before (parameter_of setting used known first) (λ then_known. parameters_of setting used then_known others)

  pub words-end : (alone : Bool) (said : Said) → words_said setting used alone known said tree.no_words ≡ given known said
  unfolding words_said
  words-end alone said = refl

  pub words-next : (alone : Bool) (said : Said) (first : Specifier) (others : Words) → words_said setting used alone known said (tree.more_words first others)
      ≡ after (word_said setting used alone known said first) (λ behind so_far. words_said setting used alone behind so_far others)
  unfolding words_said
  words-next alone said first others = refl

  pub fields-end : (before : List TypedMember) → fields_of setting used known before tree.no_members ≡ given known before
  unfolding fields_of
  fields-end before = refl

  pub fields-next : (before : List TypedMember) (first : Member) (others : Members) → fields_of setting used known before (tree.more_members first others)
      ≡ after (fields_declared setting used known before first) (λ behind so_far. fields_of setting used behind so_far others)
  unfolding fields_of
  fields-next before first others = refl

  pub fields-with-end : (base : CType) (before : List TypedMember) → fields_with setting used known base before tree.no_declarators ≡ given known before
  unfolding fields_with
  fields-with-end base before = refl

  pub fields-with-next : (base : CType) (before : List TypedMember) (first : Declarator) (others : Declarators) → fields_with setting used known base before (tree.more_declarators first others)
      ≡ after (field_with setting used known base before first) (λ behind so_far. fields_with setting used behind base so_far others)
  unfolding fields_with
  fields-with-next base before first others =
      go (steps_of setting used known first)
    where
      go : (outcome : Outcome (List Step)) → after outcome (λ then_known steps. after (derived then_known base steps) (λ then_more type.
          after (typed_field setting then_more (declarator_span first).first (declarator_name first) before type) (λ behind so_far. fields_with setting used behind base so_far others)))
          ≡ after (after (after outcome (λ behind steps. derived behind base steps)) (λ behind type. typed_field setting behind (declarator_span first).first (declarator_name first) before type))
          (λ behind so_far. fields_with setting used behind base so_far others)
      go (broken rule at) = refl
      go (given then_known steps) = further (derived then_known base steps)
        where
          further : (outcome : Outcome CType) → after outcome (λ then_more type.
              after (typed_field setting then_more (declarator_span first).first (declarator_name first) before type) (λ behind so_far. fields_with setting used behind base so_far others))
              ≡ after (after outcome (λ behind type. typed_field setting behind (declarator_span first).first (declarator_name first) before type))
              (λ behind so_far. fields_with setting used behind base so_far others)
          further (broken rule at) = refl
          further (given then_more type) = refl

  pub enumerators-end : (last : ℤ) → enumerators_of setting used known last tree.no_enumerators ≡ given known last
  unfolding enumerators_of
  enumerators-end last = refl

  pub enumerators-next : (last : ℤ) (first : Enumerator) (others : Enumerators) → enumerators_of setting used known last (tree.more_enumerators first others)
      ≡ after (enumerator_of setting used known last first) (λ behind value. enumerators_of setting used behind value others)
  unfolding enumerators_of
  enumerators-next last first others = refl

-- ---- where a loop stands

-- the next item, and the rest
pub cut : {A : Type 0} (xs : List A) (i : ℕ) (x : A) → i < length xs → x ≡ get_or xs i x → drop i xs ≡ x ∷ drop (i + 1) xs
cut xs i x inside is = rw (add-one, drop-cons xs i x inside) (ap (λ it. it ∷ drop (suc i) xs) (sym is))

-- no item is left
pub past : {A : Type 0} (xs : List A) (i : ℕ) → length xs ≤ i → drop i xs ≡ []
past xs i h = drop_of_length-le xs h
