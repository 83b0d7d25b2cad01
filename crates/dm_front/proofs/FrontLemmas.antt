-- External declarations are typed one after the other.
use Rattle.std.proofs.Common.{◌≡◌, List, [], ◌∷◌, ◌++◌, refl, sym, ap, ◌∙◌}
use Rattle.dm_syn.specs.Trees.{External}
use Rattle.dm_tree.specs.Units as unit
use Rattle.dm_typing.specs.Known.{Setting}
use Rattle.dm_edecl.specs.Standing.{Standing, Progress, goes_on, stops, further}
use Rattle.dm_edecl.specs.Units.{typed_external, typed_externals}
use Rattle.dm_front.specs.Fronts.{IsFront}

abbrev Typed : Type 0
Typed = Progress (List unit.External)

-- what stands behind a front
abbrev then_others : Setting → List External → Standing → List unit.External → Typed
then_others setting others behind first = further (typed_externals setting behind others) (λ end more. goes_on end (first ++ more))

further-itself : (progress : Typed) → further progress (λ end more. goes_on end more) ≡ progress
further-itself (goes_on end more) = refl
further-itself (stops rule at) = refl

-- one more before
before-others : (setting : Setting) (others : List External) (one : unit.External) (progress : Typed)
    → further (further progress (then_others setting others)) (λ end more. goes_on end (one ∷ more)) ≡ further (further progress (λ behind more. goes_on behind (one ∷ more))) (then_others setting others)
before-others setting others one (stops rule at) = refl
before-others setting others one (goes_on behind first) = by (typed_externals setting behind others)
  where
    by : (progress : Typed) → further (further progress (λ end more. goes_on end (first ++ more))) (λ end more. goes_on end (one ∷ more)) ≡ further progress (λ end more. goes_on end ((one ∷ first) ++ more))
    by (stops rule at) = refl
    by (goes_on end more) = refl

pub front-first : (setting : Setting) (standing : Standing) (front others : List External) → typed_externals setting standing (front ++ others) ≡ further (typed_externals setting standing front) (then_others setting others)
front-first setting standing [] others = sym (further-itself (typed_externals setting standing others))
front-first setting standing (one ∷ front) others = by (typed_external setting standing one) (λ behind. front-first setting behind front others)
  where
    by : (progress : Progress unit.External) → ((behind : Standing) → typed_externals setting behind (front ++ others) ≡ further (typed_externals setting behind front) (then_others setting others))
        → further progress (λ behind one. further (typed_externals setting behind (front ++ others)) (λ end more. goes_on end (one ∷ more)))
        ≡ further (further progress (λ behind one. further (typed_externals setting behind front) (λ end more. goes_on end (one ∷ more)))) (then_others setting others)
    by (stops rule at) next = refl
    by (goes_on behind one) next = ap (λ (p : Typed). further p (λ end more. goes_on end (one ∷ more))) (next behind) ∙ before-others setting others one (typed_externals setting behind front)

pub front-too : (setting : Setting) (standing end : Standing) (front others : List External) (made : List unit.External) → typed_externals setting standing (front ++ others) ≡ goes_on end made → IsFront setting standing front others end made
front-too setting standing end front others made is = by (typed_externals setting standing front) refl (sym (front-first setting standing front others) ∙ is)
  where
    by : (progress : Typed) → typed_externals setting standing front ≡ progress → further progress (then_others setting others) ≡ goes_on end made → IsFront setting standing front others end made
    by (stops rule at) e is = absurd (cc)
    by (goes_on behind first) e is = rest (typed_externals setting behind others) refl is
      where
        rest : (progress : Typed) → typed_externals setting behind others ≡ progress → further progress (λ end more. goes_on end (first ++ more)) ≡ goes_on end made → IsFront setting standing front others end made
        rest (stops rule at) f is = absurd (cc)
        rest (goes_on last more) f is =
            let same : last ≡ end = cc in
            let all : first ++ more ≡ made = cc in
            (behind, first, more, e, f ∙ ap (λ (s : Standing). goes_on s more) same, sym all)
