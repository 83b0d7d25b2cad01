-- Where all types of a signature can be spelled, there is a change.
use Rattle.std.proofs.Common.{◌≡◌, ℕ, Bool, true, false, List, [], ◌∷◌, refl, ap, ◌∙◌, sym}
use Rattle.std.specs.Prelude.{Option, Some, None, All, option_map, option_and_then}
use Rattle.std.proofs.lemmas.Bool.{cond-true, cond-false}
use Rattle.std.proofs.lemmas.List.Elements.{All-head, All-tail}
use Rattle.dm_token.specs.declared.expansion.Definition.{Definition}
use Rattle.dm_type.specs.CTypes.{CType}
use Rattle.dm_type.specs.Spelling.{spelling, spelling_of, is_spellable}
use Rattle.dm_type.specs.Tables.{Table}
use Rattle.dm_edit.specs.declared.change.As.{As}
use Rattle.dm_edit.specs.declared.change.As.TheVariants.{Function, Enumerator, Constant}
use Rattle.dm_judge.specs.Changes.{Parameter, Signature, change_of, change_with, declarations, head_of, kind_with}

abbrev pub IsSpellable : Table → List ℕ → CType → Type 0
IsSpellable table visible type = is_spellable table visible type ≡ true

-- a type that can be spelled can be spelled round any declarator
pub spelled-round : (table : Table) (visible : List ℕ) (type : CType) (declarator : List ℕ) → IsSpellable table visible type
    → spelling table visible type declarator ≡ Some (spelling_of table type declarator)
spelled-round table visible type declarator h = cond-true _ _ _ h

-- one that is spelled can be
pub spellable : (table : Table) (visible : List ℕ) (type : CType) (declarator text : List ℕ) → spelling table visible type declarator ≡ Some text
    → IsSpellable table visible type
spellable table visible type declarator text h = go (is_spellable table visible type) refl
  where
    go : (b : Bool) → is_spellable table visible type ≡ b → IsSpellable table visible type
    go true p = p
    go false p = absurd (cc (sym (cond-false _ (Some (spelling_of table type declarator)) None p), h))

-- there is something
abbrev pub There : {A : Type 0} → Option A → Type 0
There {A} option = (x : A) × (option ≡ Some x)

pub mapped : {A B : Type 0} (f : A → B) (option : Option A) → There option → There (option_map f option)
mapped f option (x, p) = (f x, ap (option_map f) p)

pub bound : {A B : Type 0} (f : A → Option B) (option : Option A) → There option → ((x : A) → There (f x)) → There (option_and_then f option)
bound f option (x, p) h = ((h x).0, ap (option_and_then f) p ∙ (h x).1)

pub spelled : (table : Table) (visible : List ℕ) (type : CType) (declarator : List ℕ) → IsSpellable table visible type → There (spelling table visible type declarator)
spelled table visible type declarator h = (spelling_of table type declarator, spelled-round table visible type declarator h)

pub all-declared : (table : Table) (visible : List ℕ) (parameters : List Parameter)
    → All (λ (one : Parameter). IsSpellable table visible one.kind) parameters → There (declarations table visible parameters)
all-declared table visible [] h = ([], refl)
all-declared table visible (one ∷ others) h =
    bound (λ text. option_map (λ texts. text ∷ texts) (declarations table visible others)) (spelling table visible one.kind one.name)
    (spelled table visible one.kind one.name (All-head (λ (each : Parameter). IsSpellable table visible each.kind) one others h))
    (λ text. mapped (λ texts. text ∷ texts) (declarations table visible others)
    (all-declared table visible others (All-tail (λ (each : Parameter). IsSpellable table visible each.kind) one others h)))

head-stands : (kind : As) (table : Table) (visible : List ℕ) (definition : Definition) (signature : Signature) → IsSpellable table visible signature.result
    → All (λ (one : Parameter). IsSpellable table visible one.kind) signature.parameters → There (head_of kind table visible definition signature)
head-stands Function table visible definition signature h all =
    bound _ (declarations table visible signature.parameters) (all-declared table visible signature.parameters all)
    (λ texts. mapped _ (spelling table visible signature.result _) (spelled table visible signature.result _ h))
head-stands Enumerator table visible definition signature h all = (_, refl)
head-stands Constant table visible definition signature h all =
    mapped _ (spelling table visible signature.result definition.name) (spelled table visible signature.result definition.name h)

pub change-stands : (table : Table) (visible : List ℕ) (definition : Definition) (signature : Signature) → IsSpellable table visible signature.result
    → All (λ (one : Parameter). IsSpellable table visible one.kind) signature.parameters → There (change_with table visible definition signature)
change-stands table visible definition signature h all =
    mapped (change_of definition (kind_with definition signature.result)) _ (head-stands (kind_with definition signature.result) table visible definition signature h all)
