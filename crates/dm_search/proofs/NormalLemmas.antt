-- Joined names are normal.
use Rattle.std.proofs.Common.{◌≡◌, ℕ, Bool, true, false, cond, ◌&&◌, List, [], ◌∷◌, ◌++◌, Option, None, Some, option_and_then, refl, sym, ap, ◌∙◌}
use Rattle.std.specs.List.{list_all, cons_option, join_with_byte}
use Rattle.dm_token.specs.Bytes.{slash}
use Rattle.dm_token.specs.Names.{is_normal_name}
use Rattle.dm_search.specs.Joining.{parts_of, named, walked, joined, candidates}

-- a name that is given is normal
if-normal : (name found : List ℕ) (b : Bool) → is_normal_name name ≡ b → cond b (Some name) None ≡ Some found → is_normal_name found ≡ true
if-normal name found true normal is = let same : name ≡ found = cc in ap is_normal_name (sym same) ∙ normal
if-normal name found false normal is = absurd (cc)

walked-normal : (found : List ℕ) (parts : Option (List (List ℕ))) → option_and_then named parts ≡ Some found → is_normal_name found ≡ true
walked-normal found None is = absurd (cc)
walked-normal found (Some parts) is = if-normal (join_with_byte slash parts) found (is_normal_name (join_with_byte slash parts)) refl is

joined-normal : (folder name found : List ℕ) → joined folder name ≡ Some found → is_normal_name found ≡ true
unfolding joined
joined-normal folder name found is = walked-normal found (walked (parts_of folder ++ parts_of name) []) is

-- the names that a search looks for are normal
pub candidates-normal : (name : List ℕ) (folders : List (List ℕ)) → list_all is_normal_name (candidates name folders) ≡ true
candidates-normal name [] = refl
candidates-normal name (folder ∷ folders) = by (joined folder name) refl (candidates-normal name folders)
  where
    by : (found : Option (List ℕ)) → joined folder name ≡ found → list_all is_normal_name (candidates name folders) ≡ true
        → list_all is_normal_name (cons_option found (candidates name folders)) ≡ true
    by None is rest = rest
    by (Some x) is rest = ap (λ b. b && list_all is_normal_name (candidates name folders)) (joined-normal folder name x is) ∙ rest
