-- The numbers of types in a tree are below some number.
use Rattle.std.specs.Prelude.{◌≡◌, ℕ, suc, ◌+◌, ◌≤◌, Bool, true, ◌&&◌, nat_lt, List, [], ◌∷◌, map, Option, Some, None, refl}
use Rattle.std.specs.List.{list_all}
use Rattle.std.proofs.Common.{◌∙◌, subst, arith}
use Rattle.std.proofs.lemmas.Bool.{and_from, lt-ltb}
use Rattle.dm_tree.specs.declared.tree.Core.{Core, roll-Core}
use Rattle.dm_tree.specs.declared.tree.Form.{Form, roll-Form}
use Rattle.dm_tree.specs.declared.tree.Initial.{Initial, roll-Initial}
use Rattle.dm_tree.specs.declared.tree.Local.{Local, roll-Local}
use Rattle.dm_tree.specs.declared.tree.Form.TheOpen as layer
use Rattle.dm_tree.specs.declared.tree.Form.TheFolds as folds
use Rattle.dm_tree.specs.TypeNumbers.{are_known, are_known_in_form, are_known_in_local, all_pass, form_known, initial_known, core_known, local_known}

abbrev are_known_in_initial : ℕ → Initial → Bool
are_known_in_initial types = folds.fold-Initial Bool Bool Bool Bool (form_known types) initial_known (core_known types) local_known

-- from some number on they pass
abbrev pub Bounded : (ℕ → Bool) → Type 0
Bounded passes = (n : ℕ) × ((m : ℕ) → n ≤ m → passes m ≡ true)

always : Bounded (λ m. true)
always = (0, λ m le. refl)

pub number-bounded : (id : ℕ) → Bounded (nat_lt id)
number-bounded id = (suc id, λ m le. lt-ltb id m (omega (arith, le)))

pub both-bounded : (p q : ℕ → Bool) → Bounded p → Bounded q → Bounded (λ m. p m && q m)
both-bounded p q first second =
    (first.0 + second.0, λ m le. and_from (p m) (q m) (first.1 m (omega (arith, le))) (second.1 m (omega (arith, le))))

pub list-bounded : {A : Type 0} (passes : ℕ → A → Bool) → ((it : A) → Bounded (λ m. passes m it)) → (items : List A) → Bounded (λ m. list_all (passes m) items)
list-bounded passes each [] = always
list-bounded passes each (it ∷ items) = both-bounded (λ m. passes m it) (λ m. list_all (passes m) items) (each it) (list-bounded passes each items)

abbrev FormBounded : Form → Type 0
FormBounded x = Bounded (λ m. are_known_in_form m x)

abbrev InitialBounded : Initial → Type 0
InitialBounded x = Bounded (λ m. are_known_in_initial m x)

abbrev CoreBounded : Core → Type 0
CoreBounded x = Bounded (λ m. are_known m x)

abbrev LocalBounded : Local → Type 0
LocalBounded x = Bounded (λ m. are_known_in_local m x)

abbrev Forms : Type 0
Forms = (x : Form) × FormBounded x

abbrev Initials : Type 0
Initials = (x : Initial) × InitialBounded x

abbrev Cores : Type 0
Cores = (x : Core) × CoreBounded x

abbrev Locals : Type 0
Locals = (x : Local) × LocalBounded x

-- ---- parts in order

cores-bounded : (items : List Cores) → Bounded (λ m. all_pass (map (are_known m) (map (λ e. e.0) items)))
cores-bounded [] = always
cores-bounded (e ∷ items) = both-bounded (λ m. are_known m e.0) (λ m. all_pass (map (are_known m) (map (λ e. e.0) items))) e.1 (cores-bounded items)

locals-bounded : (items : List Locals) → Bounded (λ m. all_pass (map (are_known_in_local m) (map (λ e. e.0) items)))
locals-bounded [] = always
locals-bounded (e ∷ items) = both-bounded (λ m. are_known_in_local m e.0) (λ m. all_pass (map (are_known_in_local m) (map (λ e. e.0) items))) e.1 (locals-bounded items)

initials-bounded : (items : List Initials) → Bounded (λ m. all_pass (map (are_known_in_initial m) (map (λ e. e.0) items)))
initials-bounded [] = always
initials-bounded (e ∷ items) = both-bounded (λ m. are_known_in_initial m e.0) (λ m. all_pass (map (are_known_in_initial m) (map (λ e. e.0) items))) e.1 (initials-bounded items)

-- ---- one layer

abbrev stripped_form : layer.Form-F Forms Initials Cores Locals → layer.Form-F Form Initial Core Local
stripped_form y = folds.map-Form Forms Initials Cores Locals Form Initial Core Local (λ e. e.0) (λ e. e.0) (λ e. e.0) (λ e. e.0) y

abbrev known_in : layer.Form-F Forms Initials Cores Locals → ℕ → Bool
known_in y m = form_known m (folds.map-Form Form Initial Core Local Bool Bool Bool Bool (are_known_in_form m) (are_known_in_initial m) (are_known m) (are_known_in_local m) (stripped_form y))

two : (a b : Cores) → Bounded (λ m. are_known m a.0 && are_known m b.0)
two a b = both-bounded (λ m. are_known m a.0) (λ m. are_known m b.0) a.1 b.1

three : (a b c : Cores) → Bounded (λ m. are_known m a.0 && (are_known m b.0 && are_known m c.0))
three a b c = both-bounded (λ m. are_known m a.0) (λ m. are_known m b.0 && are_known m c.0) a.1 (two b c)

led : (a : Cores) (items : List Cores) → Bounded (λ m. are_known m a.0 && all_pass (map (are_known m) (map (λ e. e.0) items)))
led a items = both-bounded (λ m. are_known m a.0) (λ m. all_pass (map (are_known m) (map (λ e. e.0) items))) a.1 (cores-bounded items)

form-layer : (y : layer.Form-F Forms Initials Cores Locals) → Bounded (known_in y)
form-layer (layer.Number value) = always
form-layer (layer.Enumerator at) = always
form-layer (layer.Literal bytes unit) = always
form-layer (layer.Object at) = always
form-layer (layer.Function at) = always
form-layer layer.Empty = always
form-layer layer.Break = always
form-layer layer.Continue = always
form-layer (layer.Read a) = a.1
form-layer (layer.Decay a) = a.1
form-layer (layer.Address a) = a.1
form-layer (layer.Follow a) = a.1
form-layer (layer.SizeofTree a) = a.1
form-layer (layer.Full a) = a.1
form-layer (layer.Default a) = a.1
form-layer (layer.Member a k) = a.1
form-layer (layer.Unary sign a) = a.1
form-layer (layer.Count plus before a) = a.1
form-layer (layer.Both a b) = two a b
form-layer (layer.Either a b) = two a b
form-layer (layer.Comma a b) = two a b
form-layer (layer.Store a b) = two a b
form-layer (layer.Case a b) = two a b
form-layer (layer.While a b) = two a b
form-layer (layer.Do a b) = two a b
form-layer (layer.Binary op a b) = two a b
form-layer (layer.Choose a b c) = three a b c
form-layer (layer.Convert a items) = led a items
form-layer (layer.Call a items) = led a items
form-layer (layer.Switch a items) = led a items
form-layer (layer.Block items) = cores-bounded items
form-layer (layer.Update op works a b) = both-bounded (nat_lt works) (λ m. are_known m a.0 && are_known m b.0) (number-bounded works) (two a b)
form-layer (layer.SizeofKind type items) = both-bounded (nat_lt type) (λ m. all_pass (map (are_known m) (map (λ e. e.0) items))) (number-bounded type) (cores-bounded items)
form-layer (layer.Declare items locals) =
    both-bounded (λ m. all_pass (map (are_known m) (map (λ e. e.0) items))) (λ m. all_pass (map (are_known_in_local m) (map (λ e. e.0) locals))) (cores-bounded items) (locals-bounded locals)
form-layer (layer.If a b None) = both-bounded (λ m. are_known m a.0) (λ m. are_known m b.0 && true) a.1 (both-bounded (λ m. are_known m b.0) (λ m. true) b.1 always)
form-layer (layer.If a b (Some c)) = three a b c
form-layer (layer.For None None None body) = body.1
form-layer (layer.For None None (Some c) body) = two c body
form-layer (layer.For None (Some b) None body) = two b body
form-layer (layer.For None (Some b) (Some c) body) = three b c body
form-layer (layer.For (Some a) None None body) = two a body
form-layer (layer.For (Some a) None (Some c) body) = three a c body
form-layer (layer.For (Some a) (Some b) None body) = three a b body
form-layer (layer.For (Some a) (Some b) (Some c) body) = both-bounded (λ m. are_known m a.0) (λ m. are_known m b.0 && (are_known m c.0 && are_known m body.0)) a.1 (three b c body)
form-layer (layer.Return None) = always
form-layer (layer.Return (Some a)) = a.1

form-whole : (y : layer.Form-F Forms Initials Cores Locals) → FormBounded (roll-Form (stripped_form y))
form-whole y =
    let r = form-layer y in (r.0, λ m le. folds.fold-roll-Form Bool Bool Bool Bool (form_known m) initial_known (core_known m) local_known (stripped_form y) ∙ r.1 m le)

abbrev stripped_initial : layer.Initial-F Forms Initials Cores Locals → layer.Initial-F Form Initial Core Local
stripped_initial y = folds.map-Initial Forms Initials Cores Locals Form Initial Core Local (λ e. e.0) (λ e. e.0) (λ e. e.0) (λ e. e.0) y

abbrev initial_known_in : layer.Initial-F Forms Initials Cores Locals → ℕ → Bool
initial_known_in y m = initial_known (folds.map-Initial Form Initial Core Local Bool Bool Bool Bool (are_known_in_form m) (are_known_in_initial m) (are_known m) (are_known_in_local m) (stripped_initial y))

initial-layer : (y : layer.Initial-F Forms Initials Cores Locals) → Bounded (initial_known_in y)
initial-layer (layer.Value a) = a.1
initial-layer (layer.Parts items) = initials-bounded items

initial-whole : (y : layer.Initial-F Forms Initials Cores Locals) → InitialBounded (roll-Initial (stripped_initial y))
initial-whole y =
    let r = initial-layer y in (r.0, λ m le. folds.fold-roll-Initial Bool Bool Bool Bool (form_known m) initial_known (core_known m) local_known (stripped_initial y) ∙ r.1 m le)

abbrev stripped_core : layer.Core-F Forms Initials Cores Locals → layer.Core-F Form Initial Core Local
stripped_core y = folds.map-Core Forms Initials Cores Locals Form Initial Core Local (λ e. e.0) (λ e. e.0) (λ e. e.0) (λ e. e.0) y

core-whole : (y : layer.Core-F Forms Initials Cores Locals) → CoreBounded (roll-Core (stripped_core y))
core-whole y =
    let r = both-bounded (nat_lt y.kind) (λ m. are_known_in_form m y.form.0) (number-bounded y.kind) y.form.1 in
    (r.0, λ m le. folds.fold-roll-Core Bool Bool Bool Bool (form_known m) initial_known (core_known m) local_known (stripped_core y) ∙ r.1 m le)

abbrev stripped_local : layer.Local-F Forms Initials Cores Locals → layer.Local-F Form Initial Core Local
stripped_local y = folds.map-Local Forms Initials Cores Locals Form Initial Core Local (λ e. e.0) (λ e. e.0) (λ e. e.0) (λ e. e.0) y

abbrev local_known_in : layer.Local-F Forms Initials Cores Locals → ℕ → Bool
local_known_in y m = local_known (folds.map-Local Form Initial Core Local Bool Bool Bool Bool (are_known_in_form m) (are_known_in_initial m) (are_known m) (are_known_in_local m) (stripped_local y))

abbrev local_layer_of : ℕ → Bool → Option Initials → layer.Local-F Forms Initials Cores Locals
local_layer_of declared defines initial = record { declared = declared; defines = defines; initial = initial }

local-layer : (declared : ℕ) (defines : Bool) (initial : Option Initials) → Bounded (local_known_in (local_layer_of declared defines initial))
local-layer declared defines None = always
local-layer declared defines (Some i) = i.1

local-whole : (y : layer.Local-F Forms Initials Cores Locals) → LocalBounded (roll-Local (stripped_local y))
local-whole y =
    let r = local-layer y.declared y.defines y.initial in
    (r.0, λ m le. folds.fold-roll-Local Bool Bool Bool Bool (form_known m) initial_known (core_known m) local_known (stripped_local y) ∙ r.1 m le)

-- the numbers in a tree are below some number, and below each greater one
pub core-bounded : (core : Core) → CoreBounded core
core-bounded = folds.ind-Core FormBounded InitialBounded CoreBounded LocalBounded
    (λ x y is. subst (λ z. FormBounded (roll-Form z)) is (form-whole y))
    (λ x y is. subst (λ z. InitialBounded (roll-Initial z)) is (initial-whole y))
    (λ x y is. subst (λ z. CoreBounded (roll-Core z)) is (core-whole y))
    (λ x y is. subst (λ z. LocalBounded (roll-Local z)) is (local-whole y))
