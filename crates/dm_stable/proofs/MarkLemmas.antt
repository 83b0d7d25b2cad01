-- Notes, one after another.
use Rattle.std.proofs.Common.{◌≡◌, ℕ, zero, suc, ◌==◌, ◌<◌, ◌≤◌, Bool, true, false, ◌&&◌, ◌||◌, List, [], ◌∷◌, ◌++◌, length, get_or, Option, Some, append_assoc, append-nil, refl, ap, sym, subst, ◌∙◌, true≢false, arith}
use Rattle.std.specs.List.{list_any}
use Rattle.std.specs.Prelude.{unwrap_or}
use Rattle.std.proofs.Math.ListN.{set}
use Rattle.std.proofs.lemmas.Bool.Decides.{Decides-eqb}
use Rattle.std.proofs.lemmas.List.{get_or-set_same, get_or-set_other}
use Rattle.std.proofs.lemmas.List.Folds.{list_any-append}
use Rattle.std.proofs.lemmas.Option.{slice_get_past, unwrap_or-slice_get}
use Rattle.dm_type.specs.Tables.{Table}
use Rattle.dm_tree.specs.declared.tree.Core.{Core, out-Core}
use Rattle.dm_tree.specs.declared.tree.Form.TheVariants as form
use Rattle.dm_tree.specs.Paths.{all_in, all_in_trees}
use Rattle.dm_tree.specs.Trees.{Tree, trees}
use Rattle.dm_tree.specs.Views.{opened_form, view}
use Rattle.dm_effect.proofs.WalkLemmas.{comma-asked, node-asked}
use Rattle.dm_stable.specs.declared.marks.Mark.{Mark}
use Rattle.dm_stable.specs.declared.marks.Mark.TheVariants.{No, Outside, Yes, Open}
use Rattle.dm_stable.specs.Marks.{Adds, Deed, Tells, joined, mark_at, does, Follows, Notes}

pub or-none : (b : Bool) → (b || false) ≡ b
or-none true = refl
or-none false = refl

or-true : (b : Bool) → (b || true) ≡ true
or-true true = refl
or-true false = refl

or-assoc : (p q r : Bool) → ((p || q) || r) ≡ (p || (q || r))
or-assoc true q r = refl
or-assoc false q r = refl

-- ---- two marks of one object

pub tells-by : (mark : Mark) (token : ℕ) (p q : Bool) → p ≡ q → Tells mark token p → Tells mark token q
tells-by mark token p q is h = λ answer told. h answer told ∙ is

says-yes : (answer : Bool) → Some true ≡ Some answer → answer ≡ true
says-yes answer is = cc

pub joined-tells : (a b : Mark) (token : ℕ) (p q : Bool) → Tells a token p → Tells b token q → Tells (joined a b) token (p || q)
joined-tells No b token p q h k = λ answer is. k answer is ∙ ap (λ x. x || q) (h false refl)
joined-tells (Outside span) No token p q h k = λ answer is. h answer is ∙ (sym (or-none p) ∙ ap (λ x. p || x) (k false refl))
joined-tells (Outside span) Yes token p q h k = λ answer is. says-yes answer is ∙ (sym (or-true p) ∙ ap (λ x. p || x) (k true refl))
joined-tells (Outside span) (Outside other) token p q h k = λ answer is. absurd (cc)
joined-tells (Outside span) Open token p q h k = λ answer is. absurd (cc)
joined-tells Yes b token p q h k = λ answer is. says-yes answer is ∙ ap (λ x. x || q) (h true refl)
joined-tells Open Yes token p q h k = λ answer is. says-yes answer is ∙ (sym (or-true p) ∙ ap (λ x. p || x) (k true refl))
joined-tells Open No token p q h k = λ answer is. absurd (cc)
joined-tells Open (Outside other) token p q h k = λ answer is. absurd (cc)
joined-tells Open Open token p q h k = λ answer is. absurd (cc)

-- ---- notes

pub follows-none : (marks : List Mark) → Follows (λ d token. false) marks marks
follows-none marks d token p h = tells-by (mark_at marks d) token p (p || false) (sym (or-none p)) h

pub follows-as : (a b : ℕ → ℕ → Bool) (old new : List Mark) → ((d token : ℕ) → a d token ≡ b d token) → Follows a old new → Follows b old new
follows-as a b old new is h d token p k = tells-by (mark_at new d) token (p || a d token) (p || b d token) (ap (λ x. p || x) (is d token)) (h d token p k)

pub follows-both : (a b : ℕ → ℕ → Bool) (old mid new : List Mark) → Follows a old mid → Follows b mid new → Follows (λ d token. a d token || b d token) old new
follows-both a b old mid new h k d token p l =
    tells-by (mark_at new d) token ((p || a d token) || b d token) (p || (a d token || b d token)) (or-assoc p (a d token) (b d token)) (k d token (p || a d token) (h d token p l))

pub notes-both : (deed : Deed) (xs ys : List Tree) (old mid new : List Mark) → Notes deed xs old mid → Notes deed ys mid new → Notes deed (xs ++ ys) old new
notes-both deed xs ys old mid new h k =
    follows-as (λ d token. list_any (does deed d token) xs || list_any (does deed d token) ys) (λ d token. list_any (does deed d token) (xs ++ ys)) old new
    (λ d token. sym (list_any-append (does deed d token) xs ys))
    (follows-both (λ d token. list_any (does deed d token) xs) (λ d token. list_any (does deed d token) ys) old mid new h k)

-- ---- trees

abbrev pub NotesIn : Deed → List Tree → List Mark → List Mark → Type 0
NotesIn deed all old new = Notes deed (all_in_trees (trees all)) old new

nodes-seam : (all others : List Tree) → all_in_trees (trees (all ++ others)) ≡ all_in_trees (trees all) ++ all_in_trees (trees others)
nodes-seam [] others = refl
nodes-seam (first ∷ all) others = ap (λ nodes. all_in first ++ nodes) (nodes-seam all others) ∙ sym (append_assoc (all_in first) (all_in_trees (trees all)) (all_in_trees (trees others)))

pub in-both : (deed : Deed) (all others : List Tree) (old mid new : List Mark) → NotesIn deed all old mid → NotesIn deed others mid new → NotesIn deed (all ++ others) old new
in-both deed all others old mid new h k =
    subst (λ (nodes : List Tree). Notes deed nodes old new) (sym (nodes-seam all others)) (notes-both deed (all_in_trees (trees all)) (all_in_trees (trees others)) old mid new h k)

pub in-one : (deed : Deed) (tree : Tree) (old new : List Mark) → Notes deed (all_in tree) old new → NotesIn deed (tree ∷ []) old new
in-one deed tree old new h = subst (λ (nodes : List Tree). Notes deed nodes old new) (sym (append-nil (all_in tree))) h

-- ---- nodes of the code

module _ (deed : Deed) (types : Table) (core : Core) (old mid new : List Mark) where
  pub node-noted : (parts : List Tree) → parts ≡ (opened_form types (out-Core core).form).parts
      → Follows (λ d token. does deed d token (view types core)) old mid → NotesIn deed parts mid new → Notes deed (all_in (view types core)) old new
  node-noted parts is h k =
      follows-as (λ d token. does deed d token (view types core) || list_any (does deed d token) (all_in_trees (trees parts))) (λ d token. list_any (does deed d token) (all_in (view types core))) old new
      (λ d token. sym (node-asked (does deed d token) types core ∙ ap (λ (all : List Tree). does deed d token (view types core) || list_any (does deed d token) (all_in_trees (trees all))) (sym is)))
      (follows-both (λ d token. does deed d token (view types core)) (λ d token. list_any (does deed d token) (all_in_trees (trees parts))) old mid new h k)

abbrev any_in : Deed → Table → Core → ℕ → ℕ → Bool
any_in deed types one d token = list_any (does deed d token) (all_in (view types one))

pub comma-noted : (deed : Deed) (types : Table) (core a b : Core) → (out-Core core).form ≡ form.Comma a b → (old mid later new : List Mark)
    → Follows (λ d token. does deed d token (view types core)) old mid → Notes deed (all_in (view types b)) mid later → Notes deed (all_in (view types a)) later new → Notes deed (all_in (view types core)) old new
comma-noted deed types core a b is old mid later new h k l =
    follows-as (λ d token. does deed d token (view types core) || (any_in deed types b d token || any_in deed types a d token)) (any_in deed types core) old new
    (λ d token. ap (λ x. does deed d token (view types core) || x) (or-swap (any_in deed types b d token) (any_in deed types a d token)) ∙ sym (comma-asked (does deed d token) types core a b is))
    (follows-both (λ d token. does deed d token (view types core)) (λ d token. any_in deed types b d token || any_in deed types a d token) old mid new h (follows-both (any_in deed types b) (any_in deed types a) mid later new k l))
  where
    or-swap : (p q : Bool) → (p || q) ≡ (q || p)
    or-swap true true = refl
    or-swap true false = refl
    or-swap false true = refl
    or-swap false false = refl

pub nothing : {X : Type 0} (all : List X) → length all ≡ 0 → all ≡ []
nothing [] h = refl
nothing (x ∷ all) h = absurd (omega arith)

-- ---- a mark for one object

at-or : (marks : List Mark) (d : ℕ) → mark_at marks d ≡ get_or marks d Open
at-or marks d = unwrap_or-slice_get marks d Open

get_or-any : (marks : List Mark) (i : ℕ) (a b : Mark) → i < length marks → get_or marks i a ≡ get_or marks i b
get_or-any [] i a b h = absurd (omega arith)
get_or-any (mark ∷ marks) zero a b h = refl
get_or-any (mark ∷ marks) (suc i) a b h = get_or-any marks i a b (omega arith)

module _ (marks : List Mark) (object d token : ℕ) (mark : Mark) (old added : Bool) (before : Tells (mark_at marks d) token old) (adds : Adds object mark d token added) where
  other-tells : (object ≡ d → ⊥) → Tells (mark_at marks d) token (old || added)
  other-tells other = tells-by (mark_at marks d) token old (old || added) (sym (ap (λ x. old || x) (adds.1 other) ∙ or-none old)) before

  pub note-in : (here : Mark) → object < length marks → here ≡ get_or marks object here → Tells (mark_at (set marks object (joined here mark)) d) token (old || added)
  note-in here within is = by (object == d) refl
    where
      new : List Mark
      new = set marks object (joined here mark)

      by : (b : Bool) → (object == d) ≡ b → Tells (mark_at new d) token (old || added)
      by true h =
          let same : object ≡ d = (Decides-eqb object d).0 h in
          let found : mark_at marks d ≡ here = ap (mark_at marks) (sym same) ∙ (at-or marks object ∙ (get_or-any marks object Open here within ∙ sym is)) in
          let put : joined here mark ≡ mark_at new d = sym (ap (mark_at new) (sym same) ∙ (at-or new object ∙ get_or-set_same marks object (joined here mark) Open within)) in
          subst (λ (one : Mark). Tells one token (old || added)) put (joined-tells here mark token old added (subst (λ (one : Mark). Tells one token old) found before) (adds.0 same))
      by false h =
          let other : object ≡ d → ⊥ = λ e. true≢false (sym ((Decides-eqb object d).1 e) ∙ h) in
          let kept : mark_at marks d ≡ mark_at new d = at-or marks d ∙ (sym (get_or-set_other marks object d (joined here mark) Open (λ e. other (sym e))) ∙ sym (at-or new d)) in
          subst (λ (one : Mark). Tells one token (old || added)) kept (other-tells other)

  pub note-out : length marks ≤ object → Tells (mark_at marks d) token (old || added)
  note-out past = by (object == d) refl
    where
      by : (b : Bool) → (object == d) ≡ b → Tells (mark_at marks d) token (old || added)
      by true h =
          let same : object ≡ d = (Decides-eqb object d).0 h in
          let none : mark_at marks d ≡ Open = ap (mark_at marks) (sym same) ∙ ap (λ (one : Option Mark). unwrap_or one Open) (slice_get_past marks object past) in
          subst (λ (one : Mark). Tells one token (old || added)) (sym none) (λ answer is. absurd (cc))
      by false h = other-tells (λ e. true≢false (sym ((Decides-eqb object d).1 e) ∙ h))

-- a mark that is right for one object
pub adds-if : (object d token : ℕ) (mark : Mark) (p : Bool) → Tells mark token p → Adds object mark d token ((object == d) && p)
adds-if object d token mark p h = (λ same. tells-by mark token p ((object == d) && p) (sym (ap (λ b. b && p) ((Decides-eqb object d).1 same))) h, λ other. by (object == d) refl other)
  where
    by : (b : Bool) → (object == d) ≡ b → (object ≡ d → ⊥) → ((object == d) && p) ≡ false
    by true h other = absurd (other ((Decides-eqb object d).0 h))
    by false h other = ap (λ b. b && p) h

and-true : (p : Bool) → (p && true) ≡ p
and-true true = refl
and-true false = refl

pub adds-this : (object d token : ℕ) → Adds object Yes d token (object == d)
adds-this object d token =
    let adds : Adds object Yes d token ((object == d) && true) = adds-if object d token Yes true (λ answer is. says-yes answer is) in
    subst (λ (b : Bool). Adds object Yes d token b) (and-true (object == d)) adds

-- ---- no marks

pub unmarked-more : (marks : List Mark) (d token : ℕ) → Tells (mark_at marks d) token false → Tells (mark_at (marks ++ No ∷ []) d) token false
unmarked-more [] zero token h = λ answer is. cc
unmarked-more [] (suc d) token h = h
unmarked-more (mark ∷ marks) zero token h = h
unmarked-more (mark ∷ marks) (suc d) token h = unmarked-more marks d token h
