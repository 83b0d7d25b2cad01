-- The parts of nodes of the code.
use Rattle.std.proofs.Common.{rules, ◌≡◌, ◌≤◌, ℕ, ◌&&◌, IsTrue, List, [], ◌∷◌, ◌++◌, length, map, flat_map, Option, Some, None, Result, Ok, Err, IfOk, OnOk, Bor, append_assoc, append-nil, refl, sym, ap, ◌∙◌}
use Rattle.std.proofs.Math.Bool.{and-true}
use Rattle.std.specs.Option.{option_copied, option_map}
use denote.Param.Weighed.{most}
use Rattle.dm_type.specs.Tables.{Table}
use Rattle.dm_tree.specs.declared.tree.Core.{Core, size-Core}
use Rattle.dm_tree.specs.declared.tree.Core as q
use Rattle.dm_tree.specs.declared.tree.Form.{Form, size-Form}
use Rattle.dm_tree.specs.declared.tree.Form.TheVariants as form
use Rattle.dm_tree.specs.declared.tree.Initial.{Initial, size-Initial}
use Rattle.dm_tree.specs.declared.tree.Initial.TheVariants as initials
use Rattle.dm_tree.specs.declared.tree.Local.{Local, size-Local}
use Rattle.dm_tree.specs.TypeNumbers.{all_pass, are_known, are_known_in_form, are_known_in_local, passes_if_there}
use Rattle.dm_tree.specs.Views.{expressions_of_items, expressions_of_locals, opened_form, view, view_of_local}
use Rattle.dm_meaning.specs.Wholes.{view_of_initial}
use Rattle.dm_agree.specs.Parts.{are_all_known, are_known_in_initial, if_given, there}

-- what follows where a call gives something
pub on-ok : {T E : Type 0} {P Q : Type 0} (r : Result T E) → (P → Q) → OnOk r P → OnOk r Q
on-ok (Ok x) f h = f h
on-ok (Err e) f h = tt

pub if-ok : {T E : Type 0} {P Q : T → Type 0} (r : Result T E) → ((x : T) → P x → Q x) → IfOk r P → IfOk r Q
if-ok (Ok x) f h = f x h
if-ok (Err e) f h = tt

-- ---- lists that grow

-- what is added of the first of those that are left
pub added : {X A : Type 0} (E : X → List A) (old now later : List A) (all left : List X) (x : X) (rest : List X)
    → now ++ flat_map E left ≡ old ++ flat_map E all → left ≡ x ∷ rest → later ≡ now ++ E x → later ++ flat_map E rest ≡ old ++ flat_map E all
added E old now later all left x rest so_far is new =
    ap (λ one. one ++ flat_map E rest) new ∙ (append_assoc now (E x) (flat_map E rest) ∙ (ap (λ those. now ++ flat_map E those) (sym is) ∙ so_far))

pub nothing : {X : Type 0} (xs : List X) → length xs ≡ 0 → xs ≡ []
nothing [] h = refl
nothing (x ∷ xs) h = absurd (cc)

pub all-added : {X A : Type 0} (E : X → List A) (old now : List A) (all left : List X) → now ++ flat_map E left ≡ old ++ flat_map E all → left ≡ [] → now ≡ old ++ flat_map E all
all-added E old now all left so_far is = sym (append-nil now) ∙ (ap (λ those. now ++ flat_map E those) (sym is) ∙ so_far)

-- ---- initialisers in braces

pub parted : (types : Table) (initial : Initial) (list : List Initial) → initial ≡ initials.Parts list → (view_of_initial types initial).expressions ≡ expressions_of_items (map (view_of_initial types) list)
parted types initial list is = ap (λ (one : Initial). (view_of_initial types one).expressions) is ∙ opened-Parts
  where
    opened-Parts : (view_of_initial types (initials.Parts list)).expressions ≡ expressions_of_items (map (view_of_initial types) list)
    opened-Parts = search (rules, q.the_lemmas)

pub parts-known : (n : ℕ) (initial : Initial) (list : List Initial) → initial ≡ initials.Parts list → are_known_in_initial n initial ≡ all_pass (map (are_known_in_initial n) list)
parts-known n initial list is = ap (are_known_in_initial n) is ∙ known-Parts
  where
    known-Parts : are_known_in_initial n (initials.Parts list) ≡ all_pass (map (are_known_in_initial n) list)
    known-Parts = search (rules, q.the_lemmas)

pub parts-size : (initial : Initial) (list : List Initial) → initial ≡ initials.Parts list → most size-Initial list ≤ size-Initial initial
parts-size initial list is = search (rules, q.the_lemmas)

-- ---- trees that may be left out

there-is : (one : Option (Bor Core)) → there one ≡ if_given (option_copied one)
there-is None = refl
there-is (Some one) = refl

known-given : (n : ℕ) (one : Option Core) (rest : List Core) → (passes_if_there (option_map (are_known n) one) && are_all_known n rest) ≡ are_all_known n (if_given one ++ rest)
known-given n None rest = refl
known-given n (Some one) rest = refl

given : (one : Option (Bor Core)) (tree : Option Core) → option_copied one ≡ tree → there one ≡ if_given tree
given one tree is = there-is one ∙ ap if_given is

-- ---- a for

pub for-known : (n : ℕ) (f : Form) (a b c : Option Core) (body : Core) → f ≡ form.For a b c body
    → are_known_in_form n f
    ≡ (passes_if_there (option_map (are_known n) a) && (passes_if_there (option_map (are_known n) b) && (passes_if_there (option_map (are_known n) c) && are_known n body)))
for-known n f a b c body is = ap (are_known_in_form n) is ∙ known-For
  where
    known-For : are_known_in_form n (form.For a b c body)
        ≡ (passes_if_there (option_map (are_known n) a) && (passes_if_there (option_map (are_known n) b) && (passes_if_there (option_map (are_known n) c) && are_known n body)))
    known-For = search (rules, q.the_lemmas)

pub for-parts-known : (n : ℕ) (p q r : Option (Bor Core)) (s : Bor Core) (a b c : Option Core) (body : Core)
    → option_copied p ≡ a → option_copied q ≡ b → option_copied r ≡ c → s.now ≡ body
    → (parts : List Core) → parts ≡ flat_map there (p ∷ q ∷ r ∷ Some s ∷ [])
    → IsTrue (passes_if_there (option_map (are_known n) a) && (passes_if_there (option_map (are_known n) b) && (passes_if_there (option_map (are_known n) c) && are_known n body)))
    → IsTrue (are_all_known n parts)
for-parts-known n p q r s a b c body first second third fourth parts same whole =
    ap (are_all_known n) (same ∙ (λ i. given p a first i ++ (given q b second i ++ (given r c third i ++ fourth i ∷ []))))
    ∙ (sym (known-given n a (if_given b ++ (if_given c ++ body ∷ [])))
    ∙ (ap (λ more. passes_if_there (option_map (are_known n) a) && more) (sym (known-given n b (if_given c ++ body ∷ [])))
    ∙ (ap (λ more. passes_if_there (option_map (are_known n) a) && (passes_if_there (option_map (are_known n) b) && more)) (sym (known-given n c (body ∷ [])))
    ∙ (ap (λ more. passes_if_there (option_map (are_known n) a) && (passes_if_there (option_map (are_known n) b) && (passes_if_there (option_map (are_known n) c) && more))) (and-true (are_known n body)) ∙ whole))))

-- ---- an if

pub if-known : (n : ℕ) (f : Form) (a b : Core) (c : Option Core) → f ≡ form.If a b c
    → are_known_in_form n f ≡ (are_known n a && (are_known n b && passes_if_there (option_map (are_known n) c)))
if-known n f a b c is = ap (are_known_in_form n) is ∙ known-If
  where
    known-If : are_known_in_form n (form.If a b c) ≡ (are_known n a && (are_known n b && passes_if_there (option_map (are_known n) c)))
    known-If = search (rules, q.the_lemmas)

pub if-parts-known : (n : ℕ) (p q : Bor Core) (r : Option (Bor Core)) (a b : Core) (c : Option Core) → p.now ≡ a → q.now ≡ b → option_copied r ≡ c
    → (parts : List Core) → parts ≡ flat_map there (Some p ∷ Some q ∷ r ∷ [])
    → IsTrue (are_known n a && (are_known n b && passes_if_there (option_map (are_known n) c)))
    → IsTrue (are_all_known n parts)
if-parts-known n p q r a b c first second third parts same whole =
    ap (are_all_known n) (same ∙ (λ i. first i ∷ (second i ∷ (given r c third i ++ []))))
    ∙ (ap (λ more. are_known n a && (are_known n b && more)) (sym (known-given n c []))
    ∙ (ap (λ more. are_known n a && (are_known n b && more)) (and-true (passes_if_there (option_map (are_known n) c))) ∙ whole))

-- ---- trees of a list

pub sizeof-size : (f : Form) (kind : ℕ) (list : List Core) → f ≡ form.SizeofKind kind list → most size-Core list ≤ size-Form f
sizeof-size f kind list is = search (rules, q.the_lemmas)

pub block-size : (f : Form) (list : List Core) → f ≡ form.Block list → most size-Core list ≤ size-Form f
block-size f list is = search (rules, q.the_lemmas)

-- ---- a declaration

pub declare-known : (n : ℕ) (f : Form) (lengths : List Core) (locals : List Local) → f ≡ form.Declare lengths locals
    → are_known_in_form n f ≡ (all_pass (map (are_known n) lengths) && all_pass (map (are_known_in_local n) locals))
declare-known n f lengths locals is = ap (are_known_in_form n) is ∙ known-Declare
  where
    known-Declare : are_known_in_form n (form.Declare lengths locals) ≡ (all_pass (map (are_known n) lengths) && all_pass (map (are_known_in_local n) locals))
    known-Declare = search (rules, q.the_lemmas)

pub declare-parts : (types : Table) (f : Form) (lengths : List Core) (locals : List Local) → f ≡ form.Declare lengths locals
    → (opened_form types f).parts ≡ map (view types) lengths ++ expressions_of_locals (map (view_of_local types) locals)
declare-parts types f lengths locals is = ap (λ one. (opened_form types one).parts) is ∙ parts-Declare
  where
    parts-Declare : (opened_form types (form.Declare lengths locals)).parts ≡ map (view types) lengths ++ expressions_of_locals (map (view_of_local types) locals)
    parts-Declare = search (rules, q.the_lemmas)

pub declare-size : (f : Form) (lengths : List Core) (locals : List Local) → f ≡ form.Declare lengths locals
    → (most size-Core lengths ≤ size-Form f) × (most size-Local locals ≤ size-Form f)
declare-size f lengths locals is = (search (rules, q.the_lemmas), search (rules, q.the_lemmas))
