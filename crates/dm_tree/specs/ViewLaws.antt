-- Trees of the code mean the same when more types are numbered.
--     stays      a tree whose numbers of types are below n has one view over two tables that give these numbers the same types, and its
--                numbers are below any greater number too
use Rattle.std.specs.Prelude.{◌≡◌, ℕ, ◌<◌, ◌≤◌, Bool, true, false, ◌&&◌, nat_lt, IsTrue, List, [], ◌∷◌, ◌++◌, map, flat_map, length, is_some, Option, Some, None, option_map, refl}
use Rattle.std.proofs.Common.{sym, ap, ◌∙◌, subst, arith}
use Rattle.std.proofs.lemmas.Bool.{and_parts, and_from, ltb-true, lt-ltb}
use Rattle.dm_int.specs.declared.Op.{Op}
use Rattle.dm_type.specs.CTypes.{CType}
use Rattle.dm_type.specs.Tables.{Table, type_of}
use Rattle.dm_tree.specs.declared.tree.Core.{Core, roll-Core}
use Rattle.dm_tree.specs.declared.tree.Form.{Form, roll-Form}
use Rattle.dm_tree.specs.declared.tree.Initial.{Initial, roll-Initial}
use Rattle.dm_tree.specs.declared.tree.Local.{Local, roll-Local}
use Rattle.dm_tree.specs.declared.tree.Form.TheOpen as layer
use Rattle.dm_tree.specs.declared.tree.Form.TheFolds as folds
use Rattle.dm_tree.specs.Trees as label
use Rattle.dm_tree.specs.Trees.{Label, Tree}
use Rattle.dm_tree.specs.TypeNumbers.{are_known, are_known_in_form, are_known_in_local, all_pass, passes_if_there, form_known, initial_known, core_known, local_known}
use Rattle.dm_tree.specs.Views.{Opened, OpenedInitial, OpenedLocal, opened, view, opened_form, view_of_local, form_layer, initial_layer, core_layer, local_layer, node_of, if_there, items_of, expressions_of_items, declarators_of, expressions_of_locals, local_of}

abbrev view_of_initial : Table → Initial → OpenedInitial
view_of_initial types = folds.fold-Initial Opened OpenedInitial Tree OpenedLocal (form_layer types) initial_layer (core_layer types) local_layer

abbrev are_known_in_initial : ℕ → Initial → Bool
are_known_in_initial types = folds.fold-Initial Bool Bool Bool Bool (form_known types) initial_known (core_known types) local_known

module _ (n m : ℕ) (le : n ≤ m) (old new : Table) (same : (id : ℕ) → id < n → type_of new id ≡ type_of old id) where
  -- what is known below n is seen the same, and known below m
  abbrev Stays : {A : Type 0} → Bool → Bool → A → A → Type 0
  Stays before after seen again = IsTrue before → (seen ≡ again) × IsTrue after

  abbrev FormStays : Form → Type 0
  FormStays x = Stays (are_known_in_form n x) (are_known_in_form m x) (opened_form new x) (opened_form old x)

  abbrev InitialStays : Initial → Type 0
  InitialStays x = Stays (are_known_in_initial n x) (are_known_in_initial m x) (view_of_initial new x) (view_of_initial old x)

  abbrev CoreStays : Core → Type 0
  CoreStays x = Stays (are_known n x) (are_known m x) (view new x) (view old x)

  abbrev LocalStays : Local → Type 0
  LocalStays x = Stays (are_known_in_local n x) (are_known_in_local m x) (view_of_local new x) (view_of_local old x)

  abbrev Forms : Type 0
  Forms = (x : Form) × FormStays x

  abbrev Initials : Type 0
  Initials = (x : Initial) × InitialStays x

  abbrev Cores : Type 0
  Cores = (x : Core) × CoreStays x

  abbrev Locals : Type 0
  Locals = (x : Local) × LocalStays x

  -- the number of a type
  number-stays : (id : ℕ) → Stays (nat_lt id n) (nat_lt id m) (type_of new id) (type_of old id)
  number-stays id h = let lt = ltb-true id n h in (same id lt, lt-ltb id m (omega (arith, lt, le)))

  -- one part and another
  both-stay : {A B C : Type 0} (join : A → B → C) (p q r s : Bool) (x y : A) (z w : B) → Stays p q x y → Stays r s z w → Stays (p && r) (q && s) (join x z) (join y w)
  both-stay join p q r s x y z w first second h =
      let parts = and_parts p r h in
      let one = first parts.0 in
      let other = second parts.1 in
      (ap (λ t. join t z) one.0 ∙ ap (join y) other.0, and_from q s one.1 other.1)

  join-stays : {A B : Type 0} (make : A → B) (p q : Bool) (x y : A) → Stays p q x y → Stays p q (make x) (make y)
  join-stays make p q x y first h = let one = first h in (ap make one.0, one.1)

  abbrev bare_core : Cores → Core
  bare_core e = e.0

  -- trees in order
  cores-stay : (items : List Cores) → Stays (all_pass (map (are_known n) (map bare_core items))) (all_pass (map (are_known m) (map bare_core items)))
      (map (view new) (map bare_core items)) (map (view old) (map bare_core items))
  cores-stay [] = λ h. (refl, h)
  cores-stay (e ∷ items) = both-stay (λ t ts. t ∷ ts) _ _ _ _ _ _ _ _ e.1 (cores-stay items)

  locals-stay : (items : List Locals) → Stays (all_pass (map (are_known_in_local n) (map (λ e. e.0) items))) (all_pass (map (are_known_in_local m) (map (λ e. e.0) items)))
      (map (view_of_local new) (map (λ e. e.0) items)) (map (view_of_local old) (map (λ e. e.0) items))
  locals-stay [] = λ h. (refl, h)
  locals-stay (e ∷ items) = both-stay (λ t ts. t ∷ ts) _ _ _ _ _ _ _ _ e.1 (locals-stay items)

  initials-stay : (items : List Initials) → Stays (all_pass (map (are_known_in_initial n) (map (λ e. e.0) items))) (all_pass (map (are_known_in_initial m) (map (λ e. e.0) items)))
      (map (view_of_initial new) (map (λ e. e.0) items)) (map (view_of_initial old) (map (λ e. e.0) items))
  initials-stay [] = λ h. (refl, h)
  initials-stay (e ∷ items) = both-stay (λ t ts. t ∷ ts) _ _ _ _ _ _ _ _ e.1 (initials-stay items)

  -- one layer
  abbrev stripped_form : layer.Form-F Forms Initials Cores Locals → layer.Form-F Form Initial Core Local
  stripped_form y = folds.map-Form Forms Initials Cores Locals Form Initial Core Local (λ e. e.0) (λ e. e.0) (λ e. e.0) (λ e. e.0) y

  abbrev known_in : ℕ → layer.Form-F Forms Initials Cores Locals → Bool
  known_in k y = form_known k (folds.map-Form Form Initial Core Local Bool Bool Bool Bool (are_known_in_form k) (are_known_in_initial k) (are_known k) (are_known_in_local k) (stripped_form y))

  abbrev seen_in : Table → layer.Form-F Forms Initials Cores Locals → Opened
  seen_in types y = form_layer types (folds.map-Form Form Initial Core Local Opened OpenedInitial Tree OpenedLocal (opened_form types) (view_of_initial types) (view types) (view_of_local types) (stripped_form y))

  abbrev StaysIn : layer.Form-F Forms Initials Cores Locals → Type 0
  StaysIn y = Stays (known_in n y) (known_in m y) (seen_in new y) (seen_in old y)

  single : (label : Label) (a : Cores) → Stays (are_known n a.0) (are_known m a.0) (opened label (view new a.0 ∷ [])) (opened label (view old a.0 ∷ []))
  single label a = join-stays (λ t. opened label (t ∷ [])) _ _ _ _ a.1

  double : (label : Label) (a b : Cores) → Stays (are_known n a.0 && are_known n b.0) (are_known m a.0 && are_known m b.0)
      (opened label (view new a.0 ∷ view new b.0 ∷ [])) (opened label (view old a.0 ∷ view old b.0 ∷ []))
  double label a b = both-stay (λ t u. opened label (t ∷ u ∷ [])) _ _ _ _ _ _ _ _ a.1 b.1

  triple : (label : Label) (a b c : Cores) → Stays (are_known n a.0 && (are_known n b.0 && are_known n c.0)) (are_known m a.0 && (are_known m b.0 && are_known m c.0))
      (opened label (view new a.0 ∷ view new b.0 ∷ view new c.0 ∷ [])) (opened label (view old a.0 ∷ view old b.0 ∷ view old c.0 ∷ []))
  triple label a b c = both-stay (λ t ts. opened label (t ∷ ts)) _ _ _ _ _ _ _ _ a.1 (both-stay (λ t u. t ∷ u ∷ []) _ _ _ _ _ _ _ _ b.1 c.1)

  fourfold : (label : Label) (a b c d : Cores) → Stays (are_known n a.0 && (are_known n b.0 && (are_known n c.0 && are_known n d.0))) (are_known m a.0 && (are_known m b.0 && (are_known m c.0 && are_known m d.0)))
      (opened label (view new a.0 ∷ view new b.0 ∷ view new c.0 ∷ view new d.0 ∷ [])) (opened label (view old a.0 ∷ view old b.0 ∷ view old c.0 ∷ view old d.0 ∷ []))
  fourfold label a b c d =
      both-stay (λ t ts. opened label (t ∷ ts)) _ _ _ _ _ _ _ _ a.1
      (both-stay (λ t ts. t ∷ ts) _ _ _ _ _ _ _ _ b.1 (both-stay (λ t u. t ∷ u ∷ []) _ _ _ _ _ _ _ _ c.1 d.1))

  led : (label : Label) (a : Cores) (items : List Cores) → Stays (are_known n a.0 && all_pass (map (are_known n) (map bare_core items))) (are_known m a.0 && all_pass (map (are_known m) (map bare_core items)))
      (opened label (view new a.0 ∷ map (view new) (map bare_core items))) (opened label (view old a.0 ∷ map (view old) (map bare_core items)))
  led label a items = both-stay (λ t ts. opened label (t ∷ ts)) _ _ _ _ _ _ _ _ a.1 (cores-stay items)

  form-step : (y : layer.Form-F Forms Initials Cores Locals) → StaysIn y
  form-step (layer.Number value) = λ h. (refl, h)
  form-step (layer.Enumerator at) = λ h. (refl, h)
  form-step (layer.Literal bytes unit) = λ h. (refl, h)
  form-step (layer.Object at) = λ h. (refl, h)
  form-step (layer.Function at) = λ h. (refl, h)
  form-step layer.Empty = λ h. (refl, h)
  form-step layer.Break = λ h. (refl, h)
  form-step layer.Continue = λ h. (refl, h)
  form-step (layer.Read a) = single label.read a
  form-step (layer.Decay a) = single label.decay a
  form-step (layer.Address a) = single label.address a
  form-step (layer.Follow a) = single label.follow a
  form-step (layer.SizeofTree a) = single label.sizeof_tree a
  form-step (layer.Full a) = single label.full a
  form-step (layer.Default a) = single label.default a
  form-step (layer.Member a k) = single (label.member k) a
  form-step (layer.Unary sign a) = single (label.unary sign) a
  form-step (layer.Count plus before a) = single (label.count plus before) a
  form-step (layer.Both a b) = double label.both a b
  form-step (layer.Either a b) = double label.either a b
  form-step (layer.Comma a b) = double label.comma a b
  form-step (layer.Store a b) = double label.store a b
  form-step (layer.Case a b) = double label.case a b
  form-step (layer.While a b) = double label.while_loop a b
  form-step (layer.Do a b) = double label.do_loop a b
  form-step (layer.Binary op a b) = double (label.binary op) a b
  form-step (layer.Choose a b c) = triple label.choose a b c
  form-step (layer.Convert a items) = led label.convert a items
  form-step (layer.Call a items) = led label.call a items
  form-step (layer.Switch a items) = led label.switch a items
  form-step (layer.Block items) = join-stays (opened label.block) _ _ _ _ (cores-stay items)
  form-step (layer.Update op works a b) = both-stay (λ t ts. opened (label.update op t) ts) _ _ _ _ _ _ _ _ (number-stays works) (both-stay (λ t u. t ∷ u ∷ []) _ _ _ _ _ _ _ _ a.1 b.1)
  form-step (layer.SizeofKind type items) = both-stay (λ t ts. opened (label.sizeof_kind t) ts) _ _ _ _ _ _ _ _ (number-stays type) (cores-stay items)
  form-step (layer.Declare items locals) =
      both-stay (λ ts us. opened (label.declare (length ts) (declarators_of us)) (ts ++ expressions_of_locals us)) _ _ _ _ _ _ _ _ (cores-stay items) (locals-stay locals)
  form-step (layer.If a b None) = both-stay (λ t ts. opened label.if_statement (t ∷ ts)) _ _ _ _ _ _ _ _ a.1 (both-stay (λ t ts. t ∷ ts) _ _ _ _ _ _ _ _ b.1 (λ h. (refl, h)))
  form-step (layer.If a b (Some c)) = triple label.if_statement a b c
  form-step (layer.For None None None body) = single (label.for_loop false false false) body
  form-step (layer.For None None (Some c) body) = double (label.for_loop false false true) c body
  form-step (layer.For None (Some b) None body) = double (label.for_loop false true false) b body
  form-step (layer.For None (Some b) (Some c) body) = triple (label.for_loop false true true) b c body
  form-step (layer.For (Some a) None None body) = double (label.for_loop true false false) a body
  form-step (layer.For (Some a) None (Some c) body) = triple (label.for_loop true false true) a c body
  form-step (layer.For (Some a) (Some b) None body) = triple (label.for_loop true true false) a b body
  form-step (layer.For (Some a) (Some b) (Some c) body) = fourfold (label.for_loop true true true) a b c body
  form-step (layer.Return None) = λ h. (refl, h)
  form-step (layer.Return (Some a)) = single label.return a

  form-whole : (y : layer.Form-F Forms Initials Cores Locals) → FormStays (roll-Form (stripped_form y))
  form-whole y h =
      let known : are_known_in_form n (roll-Form (stripped_form y)) ≡ known_in n y = folds.fold-roll-Form Bool Bool Bool Bool (form_known n) initial_known (core_known n) local_known (stripped_form y) in
      let again : are_known_in_form m (roll-Form (stripped_form y)) ≡ known_in m y = folds.fold-roll-Form Bool Bool Bool Bool (form_known m) initial_known (core_known m) local_known (stripped_form y) in
      let here : opened_form new (roll-Form (stripped_form y)) ≡ seen_in new y = folds.fold-roll-Form Opened OpenedInitial Tree OpenedLocal (form_layer new) initial_layer (core_layer new) local_layer (stripped_form y) in
      let there : opened_form old (roll-Form (stripped_form y)) ≡ seen_in old y = folds.fold-roll-Form Opened OpenedInitial Tree OpenedLocal (form_layer old) initial_layer (core_layer old) local_layer (stripped_form y) in
      let r = form-step y (sym known ∙ h) in
      (here ∙ (r.0 ∙ sym there), again ∙ r.1)

  -- an initialiser
  abbrev stripped_initial : layer.Initial-F Forms Initials Cores Locals → layer.Initial-F Form Initial Core Local
  stripped_initial y = folds.map-Initial Forms Initials Cores Locals Form Initial Core Local (λ e. e.0) (λ e. e.0) (λ e. e.0) (λ e. e.0) y

  abbrev initial_known_in : ℕ → layer.Initial-F Forms Initials Cores Locals → Bool
  initial_known_in k y = initial_known (folds.map-Initial Form Initial Core Local Bool Bool Bool Bool (are_known_in_form k) (are_known_in_initial k) (are_known k) (are_known_in_local k) (stripped_initial y))

  abbrev initial_seen_in : Table → layer.Initial-F Forms Initials Cores Locals → OpenedInitial
  initial_seen_in types y = initial_layer (folds.map-Initial Form Initial Core Local Opened OpenedInitial Tree OpenedLocal (opened_form types) (view_of_initial types) (view types) (view_of_local types) (stripped_initial y))

  initial-step : (y : layer.Initial-F Forms Initials Cores Locals) → Stays (initial_known_in n y) (initial_known_in m y) (initial_seen_in new y) (initial_seen_in old y)
  initial-step (layer.Value a) = join-stays (λ t. initial_layer (layer.Value t)) _ _ _ _ a.1
  initial-step (layer.Parts items) = join-stays (λ ts. initial_layer (layer.Parts ts)) _ _ _ _ (initials-stay items)

  initial-whole : (y : layer.Initial-F Forms Initials Cores Locals) → InitialStays (roll-Initial (stripped_initial y))
  initial-whole y h =
      let known : are_known_in_initial n (roll-Initial (stripped_initial y)) ≡ initial_known_in n y = folds.fold-roll-Initial Bool Bool Bool Bool (form_known n) initial_known (core_known n) local_known (stripped_initial y) in
      let again : are_known_in_initial m (roll-Initial (stripped_initial y)) ≡ initial_known_in m y = folds.fold-roll-Initial Bool Bool Bool Bool (form_known m) initial_known (core_known m) local_known (stripped_initial y) in
      let here : view_of_initial new (roll-Initial (stripped_initial y)) ≡ initial_seen_in new y = folds.fold-roll-Initial Opened OpenedInitial Tree OpenedLocal (form_layer new) initial_layer (core_layer new) local_layer (stripped_initial y) in
      let there : view_of_initial old (roll-Initial (stripped_initial y)) ≡ initial_seen_in old y = folds.fold-roll-Initial Opened OpenedInitial Tree OpenedLocal (form_layer old) initial_layer (core_layer old) local_layer (stripped_initial y) in
      let r = initial-step y (sym known ∙ h) in
      (here ∙ (r.0 ∙ sym there), again ∙ r.1)

  -- a node
  abbrev stripped_core : layer.Core-F Forms Initials Cores Locals → layer.Core-F Form Initial Core Local
  stripped_core y = folds.map-Core Forms Initials Cores Locals Form Initial Core Local (λ e. e.0) (λ e. e.0) (λ e. e.0) (λ e. e.0) y

  core-whole : (y : layer.Core-F Forms Initials Cores Locals) → CoreStays (roll-Core (stripped_core y))
  core-whole y h =
      let known : are_known n (roll-Core (stripped_core y)) ≡ (nat_lt y.kind n && are_known_in_form n y.form.0) = folds.fold-roll-Core Bool Bool Bool Bool (form_known n) initial_known (core_known n) local_known (stripped_core y) in
      let again : are_known m (roll-Core (stripped_core y)) ≡ (nat_lt y.kind m && are_known_in_form m y.form.0) = folds.fold-roll-Core Bool Bool Bool Bool (form_known m) initial_known (core_known m) local_known (stripped_core y) in
      let here : view new (roll-Core (stripped_core y)) ≡ node_of (opened_form new y.form.0) (type_of new y.kind) y.inner y.outer y.place = folds.fold-roll-Core Opened OpenedInitial Tree OpenedLocal (form_layer new) initial_layer (core_layer new) local_layer (stripped_core y) in
      let there : view old (roll-Core (stripped_core y)) ≡ node_of (opened_form old y.form.0) (type_of old y.kind) y.inner y.outer y.place = folds.fold-roll-Core Opened OpenedInitial Tree OpenedLocal (form_layer old) initial_layer (core_layer old) local_layer (stripped_core y) in
      let r = both-stay (λ type form. node_of form type y.inner y.outer y.place) _ _ _ _ _ _ _ _ (number-stays y.kind) y.form.1 (sym known ∙ h) in
      (here ∙ (r.0 ∙ sym there), again ∙ r.1)

  -- a declarator
  abbrev stripped_local : layer.Local-F Forms Initials Cores Locals → layer.Local-F Form Initial Core Local
  stripped_local y = folds.map-Local Forms Initials Cores Locals Form Initial Core Local (λ e. e.0) (λ e. e.0) (λ e. e.0) (λ e. e.0) y

  abbrev local_layer_of : ℕ → Bool → Option Initials → layer.Local-F Forms Initials Cores Locals
  local_layer_of declared defines initial = record { declared = declared; defines = defines; initial = initial }

  abbrev local_known_in : ℕ → layer.Local-F Forms Initials Cores Locals → Bool
  local_known_in k y = local_known (folds.map-Local Form Initial Core Local Bool Bool Bool Bool (are_known_in_form k) (are_known_in_initial k) (are_known k) (are_known_in_local k) (stripped_local y))

  abbrev local_seen_in : Table → layer.Local-F Forms Initials Cores Locals → OpenedLocal
  local_seen_in types y = local_layer (folds.map-Local Form Initial Core Local Opened OpenedInitial Tree OpenedLocal (opened_form types) (view_of_initial types) (view types) (view_of_local types) (stripped_local y))

  local-step : (declared : ℕ) (defines : Bool) (initial : Option Initials) → let y = local_layer_of declared defines initial in Stays (local_known_in n y) (local_known_in m y) (local_seen_in new y) (local_seen_in old y)
  local-step declared defines None = λ h. (refl, h)
  local-step declared defines (Some i) = join-stays (λ t. local_of declared defines (Some t)) _ _ _ _ i.1

  local-whole : (y : layer.Local-F Forms Initials Cores Locals) → LocalStays (roll-Local (stripped_local y))
  local-whole y h =
      let known : are_known_in_local n (roll-Local (stripped_local y)) ≡ local_known_in n y = folds.fold-roll-Local Bool Bool Bool Bool (form_known n) initial_known (core_known n) local_known (stripped_local y) in
      let again : are_known_in_local m (roll-Local (stripped_local y)) ≡ local_known_in m y = folds.fold-roll-Local Bool Bool Bool Bool (form_known m) initial_known (core_known m) local_known (stripped_local y) in
      let here : view_of_local new (roll-Local (stripped_local y)) ≡ local_seen_in new y = folds.fold-roll-Local Opened OpenedInitial Tree OpenedLocal (form_layer new) initial_layer (core_layer new) local_layer (stripped_local y) in
      let there : view_of_local old (roll-Local (stripped_local y)) ≡ local_seen_in old y = folds.fold-roll-Local Opened OpenedInitial Tree OpenedLocal (form_layer old) initial_layer (core_layer old) local_layer (stripped_local y) in
      let r = local-step y.declared y.defines y.initial (sym known ∙ h) in
      (here ∙ (r.0 ∙ sym there), again ∙ r.1)

  -- a tree whose numbers of types are below n is the same over both tables, and they are below any greater number
  pub stays : (core : Core) → CoreStays core
  stays = folds.ind-Core FormStays InitialStays CoreStays LocalStays
      (λ x y is. subst (λ z. FormStays (roll-Form z)) is (form-whole y))
      (λ x y is. subst (λ z. InitialStays (roll-Initial z)) is (initial-whole y))
      (λ x y is. subst (λ z. CoreStays (roll-Core z)) is (core-whole y))
      (λ x y is. subst (λ z. LocalStays (roll-Local z)) is (local-whole y))
