-- Members by their names, beside a list of these names.
use Rattle.std.specs.Prelude.{◌≡◌, ℕ, suc, ◌+◌, Bool, true, false, not, ◌||◌, cond, is_some, List, [], ◌∷◌, ◌++◌, map, position, Option, Some, None, slice_get, bytes_eq, nat_eq, ◌<◌, length, refl}
use Rattle.std.proofs.Common.{get_or, sym, ap, ◌∙◌, arith}
use Rattle.std.proofs.lemmas.List.{length-map}
use Rattle.std.proofs.lemmas.Bool.{false≢true}
use Rattle.std.proofs.lemmas.Option.{none-some, slice_get-get_or}
use Rattle.std.specs.List.{list_any, position_from}
use Rattle.std.specs.Cmp.Lexicographic.{pointwise}
use Rattle.std.proofs.lemmas.Cmp.{nat_list_eq_equiv}
use Rattle.std.proofs.lemmas.Iterator.Adapters.{position_from-zero}
use Rattle.dm_type.specs.declared.shape.Member.{Member}
use Rattle.dm_type.specs.TableLaws.{injected}
use Rattle.dm_type.specs.Naming.{member_named}

abbrev pub names_of : List Member → List (List ℕ)
names_of members = map (λ (member : Member). member.name) members

abbrev answer : List ℕ → ℕ → Member → List Member → Bool → Option (ℕ × Member)
answer name n member members test = cond test (Some (n, member)) (member_named name (n + 1) members)

-- a name that the list has is a member's
pub is-named : (name : List ℕ) (n : ℕ) (members : List Member) → list_any (pointwise nat_eq name) (names_of members) ≡ is_some (member_named name n members)
is-named name n [] = refl
is-named name n (member ∷ members) = by (is-named name (n + 1) members) (pointwise nat_eq name member.name) refl
  where
    by : list_any (pointwise nat_eq name) (names_of members) ≡ is_some (member_named name (n + 1) members)
        → (test : Bool) → pointwise nat_eq name member.name ≡ test
        → (pointwise nat_eq name member.name || list_any (pointwise nat_eq name) (names_of members)) ≡ is_some (answer name n member members (bytes_eq member.name name))
    by others true is = ap (λ b. b || list_any (pointwise nat_eq name) (names_of members)) is ∙ sym (ap (λ b. is_some (answer name n member members b)) (nat_list_eq_equiv.symm member.name name ∙ is))
    by others false is = ap (λ b. b || list_any (pointwise nat_eq name) (names_of members)) is ∙ others
        ∙ sym (ap (λ b. is_some (answer name n member members b)) (nat_list_eq_equiv.symm member.name name ∙ is))

-- where it stands among the names, the member stands too
record Stands (name : List ℕ) (n : ℕ) (members : List Member) (number : ℕ) : Type 0 where
  at : ℕ
  counted : number ≡ n + at
  member : (member : Member) → slice_get members at ≡ Some member → member_named name n members ≡ Some (number, member)

stands : (name : List ℕ) (n : ℕ) (members : List Member) (number : ℕ) → position_from (pointwise nat_eq name) n (names_of members) ≡ Some number → Stands name n members number
stands name n [] number e = absurd (none-some number e)
stands name n (first ∷ others) number e = by (stands name (n + 1) others number) (pointwise nat_eq name first.name) refl e
  where
    by : (position_from (pointwise nat_eq name) (n + 1) (names_of others) ≡ Some number → Stands name (n + 1) others number)
        → (test : Bool) → pointwise nat_eq name first.name ≡ test
        → cond test (Some n) (position_from (pointwise nat_eq name) (n + 1) (names_of others)) ≡ Some number → Stands name n (first ∷ others) number
    by rest true is here =
        let same : n ≡ number = injected n number here in record {
          at = 0;
          counted = omega (arith, same);
          member = λ member got.
              ap (answer name n first others) (nat_list_eq_equiv.symm first.name name ∙ is)
              ∙ (ap (λ k. Some (k, first)) same ∙ ap (λ m. Some (number, m)) (injected first member got));
        }
    by rest false is there =
        let behind = rest there in
        let counted = behind.counted in record {
          at = suc behind.at;
          counted = omega (arith, counted);
          member = λ member got. ap (answer name n first others) (nat_list_eq_equiv.symm first.name name ∙ is) ∙ behind.member member got;
        }

found-member : (name : List ℕ) (members : List Member) (number : ℕ) (member : Member)
    → position (pointwise nat_eq name) (names_of members) ≡ Some number → slice_get members number ≡ Some member → member_named name 0 members ≡ Some (number, member)
found-member name members number member e got =
    let it = stands name 0 members number (sym (position_from-zero (pointwise nat_eq name) (names_of members)) ∙ e) in
    let counted = it.counted in
    let at : number ≡ it.at = omega (arith, counted) in
    it.member member (sym (ap (slice_get members) at) ∙ got)

-- where the names are those of a set
module _ (members : List Member) (keys : List (List ℕ)) (name : List ℕ) (same : names_of members ≡ keys) where
  pub set-misses : list_any (pointwise nat_eq name) keys ≡ false → member_named name 0 members ≡ None
  set-misses none = by (member_named name 0 members) (sym (is-named name 0 members) ∙ (ap (list_any (pointwise nat_eq name)) same ∙ none))
    where
      by : (found : Option (ℕ × Member)) → is_some found ≡ false → found ≡ None
      by None e = refl
      by (Some one) e = absurd (false≢true (sym e))

  pub set-places : (number : ℕ) (member : Member) → number < length keys → member ≡ get_or members number member → slice_get members number ≡ Some member
  set-places number member within is =
      let counted = ap length same in
      let mapped = length-map members (λ (one : Member). one.name) in
      slice_get-get_or members number member (omega (arith, counted, mapped, within)) ∙ ap Some (sym is)

  pub set-finds : (number : ℕ) (member : Member) → position (pointwise nat_eq name) keys ≡ Some number → number < length keys → member ≡ get_or members number member
      → member_named name 0 members ≡ Some (number, member)
  set-finds number member e within is = found-member name members number member (ap (position (pointwise nat_eq name)) same ∙ e) (set-places number member within is)

-- A set that gets a name says whether it is new.
pub new-name : (members : List Member) (keys : List (List ℕ)) (name copy : List ℕ) (added : Bool) → names_of members ≡ keys → copy ≡ name
    → added ≡ not (list_any (pointwise nat_eq copy) keys) → added ≡ not (is_some (member_named name 0 members))
new-name members keys name copy added same copied e =
    e ∙ (ap (λ n. not (list_any (pointwise nat_eq n) keys)) copied
    ∙ (ap (λ names. not (list_any (pointwise nat_eq name) names)) (sym same) ∙ ap not (is-named name 0 members)))
