-- What the typing of a part of a unit keeps: what was defined stays defined.
use Rattle.std.specs.Prelude.{◌≡◌, ℕ, Bool, true, false, not, ◌||◌, ◌&&◌, ◌==◌, List, [], ◌∷◌, ◌++◌, Option, Some, None, refl, if◌then◌else◌}
use Rattle.std.specs.FinMap as map
use Rattle.dm_token.specs.declared.place.Span.{Span}
use Rattle.dm_int.specs.declared.Kind.{Kind}
use Rattle.std.specs.Prelude.{ℤ}
use Rattle.dm_name_map.specs.Numbers.{Numbers}
use Rattle.dm_type.specs.CTypes.{CType}
use Rattle.dm_syn.specs.Spans.{declarator_span}
use Rattle.dm_syn.specs.Trees.{Declarator, Expr, ForStart, Initialiser, Item, Stmt, BlockItems, BlockItem, SwitchItems, SwitchItem}
use Rattle.dm_syn.specs.Trees as tree
use Rattle.dm_tree.specs.Trees.{Tree}
use Rattle.dm_tree.specs.Units.{Declaration}
use Rattle.dm_typing.specs.Known.{Known, Setting, Outcome, given, broken}
use Rattle.dm_edecl.specs.Standing.{Linked, Standing, Progress, goes_on, stops, further, knowing, typing, collecting, keeps, closed, in_scope, opened}
use Rattle.dm_edecl.specs.Linkages.{is_defined, with_link_if, declared_here, object_here, number_here, entry_of, kind_seen}
use Rattle.dm_edecl.specs.Initialising.{Initial, completed, expressions_alone, typed_initialiser}
use Rattle.dm_tree.specs.Initialisers.{is_fixed}
use Rattle.dm_tree.specs.Typing.{has_linkage}
use Rattle.dm_edecl.specs.Declaring.{Specified, Local, declarable, name_at, typed_declarator, typed_item, typed_items, typed_declaration, item_with, item_plain, item_initialised, initialised, object_defined, may_be_initialised}
use Rattle.dm_edecl.specs.Statements.{Within, Labelled, AllLabelled, in_loop, in_switch, statement, full_statement, for_statement, is_label_among, typed_optional, typed_condition, typed_optional_condition, typed_subject, typed_case, typed_return, typed_stmt, typed_items_in, typed_item_in, typed_switch_items, typed_switch_item, declared_in, typed_start}
use Rattle.dm_tree.specs.Trees as label

-- ---- what was defined

unfoldable pub Grows : Standing → Standing → Type 0
Grows old new = (n : ℕ) → is_defined n old.linked ≡ true → is_defined n new.linked ≡ true

unfoldable pub GrowsTo : {A : Type 0} → Standing → Progress A → Type 0
GrowsTo old (goes_on new it) = Grows old new
GrowsTo old (stops rule at) = Unit {0}

pub grows-itself : (s : Standing) → Grows s s
unfolding Grows
grows-itself s n h = h

pub grows-same : (s t : Standing) → s.linked ≡ t.linked → Grows s t
unfolding Grows
grows-same s t e n h = cc

grows-through : (s t u : Standing) → Grows s t → Grows t u → Grows s u
unfolding Grows
grows-through s t u f g n h = g n (f n h)

or-true : (one other more : Bool) → (other ≡ true → more ≡ true) → (one || other) ≡ true → (one || more) ≡ true
or-true true other more f h = refl
or-true false other more f h = f h

defined-append : (n : ℕ) (linked more : List Linked) → is_defined n linked ≡ true → is_defined n (linked ++ more) ≡ true
defined-append n [] more h = absurd (cc)
defined-append n (one ∷ others) more h =
    or-true (one.defines && (one.number == n)) (is_defined n others) (is_defined n (others ++ more)) (defined-append n others more) h

pub grows-with : (s t : Standing) (more : List Linked) → t.linked ≡ s.linked ++ more → Grows s t
unfolding Grows
grows-with s t more e n h = rw e (defined-append n s.linked more h)

grows-if : (s t : Standing) (test : Bool) (number : ℕ) (kind : CType) (defines : Bool) → t.linked ≡ with_link_if test number kind defines s.linked → Grows s t
grows-if s t true number kind defines e = grows-with s t (record { number = number; kind = kind; defines = defines } ∷ []) e
grows-if s t false number kind defines e = grows-same s t (cc)

-- ---- steps

stretched : {A : Type 0} (s t : Standing) (progress : Progress A) → Grows s t → GrowsTo t progress → GrowsTo s progress
unfolding GrowsTo
stretched s t (goes_on u it) f g = grows-through s t u f g
stretched s t (stops rule at) f g = tt

pub further-grows : {A B : Type 0} (s : Standing) (progress : Progress A) (next : Standing → A → Progress B)
    → GrowsTo s progress → ((t : Standing) (it : A) → GrowsTo t (next t it)) → GrowsTo s (further progress next)
unfolding GrowsTo
further-grows s (goes_on t it) next f g = stretched s t (next t it) f (g t it)
further-grows s (stops rule at) next f g = tt

typing-grows : {A B : Type 0} (s : Standing) (outcome : Outcome A) (next : Standing → A → Progress B)
    → ((t : Standing) (it : A) → GrowsTo t (next t it)) → GrowsTo s (typing s outcome next)
unfolding GrowsTo
typing-grows s (given known it) next g =
    stretched s (knowing s known) (next (knowing s known) it) (grows-same s (knowing s known) refl) (g (knowing s known) it)
typing-grows s (broken rule at) next g = tt

collecting-grows : {A B : Type 0} (s : Standing) (outcome : Outcome A) (next : Standing → List Tree → A → Progress B)
    → ((t : Standing) (constants : List Tree) (it : A) → GrowsTo t (next t constants it)) → GrowsTo s (collecting s outcome next)
unfolding GrowsTo
collecting-grows s (given known it) next g =
    let constants = known.constants in
    stretched s (knowing s known) (next (knowing s known) constants it) (grows-same s (knowing s known) refl) (g (knowing s known) constants it)
collecting-grows s (broken rule at) next g = tt

keeps-grows : {A : Type 0} (s : Standing) (test : Bool) (rule at : ℕ) (next : Progress A) → GrowsTo s next → GrowsTo s (keeps test rule at next)
unfolding GrowsTo
keeps-grows s true rule at next g = g
keeps-grows s false rule at next g = tt

pub closed-grows : {A : Type 0} (s : Standing) (progress : Progress A) → GrowsTo s progress → GrowsTo s (closed s progress)
unfolding Grows GrowsTo
closed-grows s (goes_on t it) g = g
closed-grows s (stops rule at) g = tt

pub scope-grows : {A : Type 0} (s : Standing) (scope : Numbers) (next : Standing → Progress A)
    → ((t : Standing) → GrowsTo t (next t)) → GrowsTo s (closed s (next (opened scope s)))
scope-grows s scope next g =
    closed-grows s (next (opened scope s)) (stretched s (opened scope s) (next (opened scope s)) (grows-same s (opened scope s) refl) (g (opened scope s)))

stops-grow : (A : Type 0) (s : Standing) (rule at : ℕ) → GrowsTo {A = A} s (stops rule at)
unfolding GrowsTo
stops-grow A s rule at = tt

-- ---- declarations (6.7)

declarable-grows : {A : Type 0} (said : Specified) (s : Standing) (initialised : Bool) (here name : ℕ) (entry : Declaration) (next : Progress A)
    → GrowsTo s next → GrowsTo s (declarable said s initialised here name entry next)
declarable-grows said s initialised here name entry next g =
    keeps-grows s _ 2 name _ (keeps-grows s _ 3 said.first _ (keeps-grows s _ 5 here _ (keeps-grows s _ 36 name next g)))

pub there-grows : {A : Type 0} (s t : Standing) (it : A) → Grows s t → GrowsTo s (goes_on t it)
unfolding GrowsTo
there-grows s t it g = g

defined-grows : (s : Standing) (entry : Declaration) (number here name : ℕ) (kind : CType) (initial : Initial)
    → GrowsTo s (object_defined s entry number here name kind initial)
defined-grows s entry number here name kind initial =
    keeps-grows s _ 2 name _ (keeps-grows s _ 5 here _
    (there-grows s (object_here s entry number kind) _ (grows-if s (object_here s entry number kind) (has_linkage entry.linkage) number kind true refl)))

initialised-grows : (setting : Setting) (s : Standing) (entry : Declaration) (number : ℕ) (span : Span) (here name : ℕ) (kind : CType) (one : Initialiser)
    → GrowsTo s (initialised setting s entry number span here name kind one)
initialised-grows setting s entry number span here name kind one =
    elim (may_be_initialised s.known entry) as (λ test. GrowsTo s
    (if test
    then typing s (typed_initialiser setting (is_fixed entry.sort) s.known (completed setting kind one) one)
    (λ behind initial. object_defined behind entry number here name (completed setting kind one) initial)
    else typing s (expressions_alone setting s.known one) (λ behind trees. stops 9 span.first))) [
      | true ↦ typing-grows s _ _ (λ t initial. defined-grows t entry number here name (completed setting kind one) initial)
      | false ↦ typing-grows s _ _ (λ t trees. stops-grow Local t 9 span.first)
    ]

declared-grows : (s : Standing) (entry : Declaration) → Grows s (declared_here s entry)
declared-grows s entry = grows-if s (declared_here s entry) (has_linkage entry.linkage) (number_here s entry) entry.kind false refl

plain-grows : (setting : Setting) (said : Specified) (s : Standing) (declarator : Declarator) (entry : Declaration)
    → GrowsTo s (item_plain setting said s declarator entry)
plain-grows setting said s declarator entry =
    declarable-grows said s false (declarator_span declarator).first (name_at declarator) entry _
    (there-grows s (declared_here s entry) _ (declared-grows s entry))

item-initialised-grows : (setting : Setting) (said : Specified) (s : Standing) (span : Span) (declarator : Declarator) (one : Initialiser) (entry : Declaration)
    → GrowsTo s (item_initialised setting said s span declarator one entry)
item-initialised-grows setting said s span declarator one entry =
    declarable-grows said s true (declarator_span declarator).first (name_at declarator) entry _
    (stretched s (declared_here s entry) _ (declared-grows s entry)
    (initialised-grows setting (declared_here s entry) entry (number_here s entry) span (declarator_span declarator).first (name_at declarator) (kind_seen s entry) one))

with-grows : (s : Standing) (constants : List Tree) (item : Progress Local) → GrowsTo s item → GrowsTo s (item_with constants item)
with-grows s constants item g = further-grows s item _ g (λ t local. there-grows t t _ (grows-itself t))

item-grows : (setting : Setting) (said : Specified) (s : Standing) (item : Item) → GrowsTo s (typed_item setting said s item)
item-grows setting said s (tree.plain span declarator) =
    collecting-grows s (typed_declarator setting s.known said.kind declarator)
    (λ behind constants kind. item_with constants (item_plain setting said behind declarator (entry_of setting behind.known said.storage (name_at declarator) kind)))
    (λ t constants kind. with-grows t constants _ (plain-grows setting said t declarator (entry_of setting t.known said.storage (name_at declarator) kind)))
item-grows setting said s (tree.initialised span declarator one) =
    collecting-grows s (typed_declarator setting s.known said.kind declarator)
    (λ behind constants kind. item_with constants (item_initialised setting said behind span declarator one (entry_of setting behind.known said.storage (name_at declarator) kind)))
    (λ t constants kind. with-grows t constants _ (item-initialised-grows setting said t span declarator one (entry_of setting t.known said.storage (name_at declarator) kind)))

pub items-grow : (setting : Setting) (said : Specified) (s : Standing) (items : List Item) → GrowsTo s (typed_items setting said s items)
items-grow setting said s [] = there-grows s s _ (grows-itself s)
items-grow setting said s (first ∷ others) =
    further-grows s _ _ (item-grows setting said s first)
    (λ t made. further-grows t _ _ (items-grow setting said t others) (λ u more. there-grows u u _ (grows-itself u)))

pub declaration-grows : (setting : Setting) (s : Standing) (declaration : tree.Declaration) → GrowsTo s (typed_declaration setting s declaration)
declaration-grows setting s (tree.declaring span specifiers items) =
    collecting-grows s _ _ (λ t constants said. further-grows t _ _ (items-grow setting said t items)
    (λ u locals. keeps-grows u _ 3 said.first _ (there-grows u u _ (grows-itself u))))

-- ---- statements (6.8)

declared-in-grows : (setting : Setting) (s : Standing) (declaration : tree.Declaration) → GrowsTo s (declared_in setting s declaration)
declared-in-grows setting s declaration =
    further-grows s _ _ (declaration-grows setting s declaration) (λ t one. there-grows t t _ (grows-itself t))

start-grows : (setting : Setting) (s : Standing) (start : ForStart) → GrowsTo s (typed_start setting s start)
start-grows setting s (tree.declares declaration) =
    further-grows s _ _ (declared-in-grows setting s declaration) (λ t made. there-grows t t _ (grows-itself t))
start-grows setting s (tree.evaluates expr) = typing-grows s _ _ (λ t values. there-grows t t _ (grows-itself t))

-- a part that is a scope of its own
part-grows : {B C : Type 0} (s : Standing) (next : Standing → Progress B) (make : B → C) → ((t : Standing) → GrowsTo t (next t))
    → GrowsTo s (further (in_scope s next) (λ behind made. goes_on behind (make made)))
part-grows s next make g =
    further-grows s (in_scope s next) (λ behind made. goes_on behind (make made)) (scope-grows s map.empty next g)
    (λ t made. there-grows t t (make made) (grows-itself t))

-- a statement that is headed by an expression
headed-grows : {A B C : Type 0} (s : Standing) (outcome : Known → Outcome A) (next : A → Standing → Progress B) (make : A → B → C)
    → ((value : A) (t : Standing) → GrowsTo t (next value t))
    → GrowsTo s (in_scope s (λ inside. typing inside (outcome inside.known) (λ then_inside value.
    further (in_scope then_inside (next value)) (λ behind made. goes_on behind (make value made)))))
headed-grows s outcome next make g =
    scope-grows s map.empty
    (λ inside. typing inside (outcome inside.known) (λ then_inside value.
    further (in_scope then_inside (next value)) (λ behind made. goes_on behind (make value made))))
    (λ t. typing-grows t (outcome t.known)
    (λ then_inside value. further (in_scope then_inside (next value)) (λ behind made. goes_on behind (make value made)))
    (λ u value. part-grows u (next value) (make value) (g value)))

-- one of two parts
twice-grows : {B C : Type 0} (s : Standing) (first second : Standing → Progress B) (make : B → B → C)
    → ((t : Standing) → GrowsTo t (first t)) → ((t : Standing) → GrowsTo t (second t))
    → GrowsTo s (further (in_scope s first) (λ then_more one. further (in_scope then_more second) (λ behind other. goes_on behind (make one other))))
twice-grows s first second make f g =
    further-grows s (in_scope s first) (λ then_more one. further (in_scope then_more second) (λ behind other. goes_on behind (make one other)))
    (scope-grows s map.empty first f) (λ t one. part-grows t second (make one) g)

either-grows : {A B C : Type 0} (s : Standing) (outcome : Known → Outcome A) (first second : Standing → Progress B) (make : A → B → B → C)
    → ((t : Standing) → GrowsTo t (first t)) → ((t : Standing) → GrowsTo t (second t))
    → GrowsTo s (in_scope s (λ inside. typing inside (outcome inside.known) (λ then_inside value.
    further (in_scope then_inside first) (λ then_more one. further (in_scope then_more second) (λ behind other. goes_on behind (make value one other))))))
either-grows s outcome first second make f g =
    scope-grows s map.empty
    (λ inside. typing inside (outcome inside.known) (λ then_inside value.
    further (in_scope then_inside first) (λ then_more one. further (in_scope then_more second) (λ behind other. goes_on behind (make value one other)))))
    (λ t. typing-grows t (outcome t.known)
    (λ then_inside value. further (in_scope then_inside first) (λ then_more one. further (in_scope then_more second) (λ behind other. goes_on behind (make value one other))))
    (λ u value. twice-grows u first second (make value) f g))

-- a statement whose expression stands behind its part
footed-grows : {A B C : Type 0} (s : Standing) (next : Standing → Progress B) (outcome : Known → Outcome A) (make : B → A → C)
    → ((t : Standing) → GrowsTo t (next t))
    → GrowsTo s (in_scope s (λ inside. further (in_scope inside next) (λ then_inside made. typing then_inside (outcome then_inside.known) (λ behind value. goes_on behind (make made value)))))
footed-grows s next outcome make g =
    scope-grows s map.empty
    (λ inside. further (in_scope inside next) (λ then_inside made. typing then_inside (outcome then_inside.known) (λ behind value. goes_on behind (make made value))))
    (λ t. further-grows t (in_scope t next) (λ then_inside made. typing then_inside (outcome then_inside.known) (λ behind value. goes_on behind (make made value)))
    (scope-grows t map.empty next g)
    (λ u made. typing-grows u (outcome u.known) (λ behind value. goes_on behind (make made value)) (λ v value. there-grows v v (make made value) (grows-itself v))))

-- an expression, and what is made of it
value-grows : {A C : Type 0} (s : Standing) (outcome : Outcome A) (make : A → C) → GrowsTo s (typing s outcome (λ behind value. goes_on behind (make value)))
value-grows s outcome make = typing-grows s outcome (λ behind value. goes_on behind (make value)) (λ t value. there-grows t t (make value) (grows-itself t))

pub made-grows : {B C : Type 0} (s : Standing) (progress : Progress B) (make : B → C) → GrowsTo s progress
    → GrowsTo s (further progress (λ behind made. goes_on behind (make made)))
made-grows s progress make g =
    further-grows s progress (λ behind made. goes_on behind (make made)) g (λ t made. there-grows t t (make made) (grows-itself t))

loop-grows : {A B C D : Type 0} (s : Standing) (start : Standing → Progress A) (second third : Known → Outcome B) (body : Standing → Progress C) (make : A → B → B → C → D)
    → ((t : Standing) → GrowsTo t (start t)) → ((t : Standing) → GrowsTo t (body t))
    → GrowsTo s (in_scope s (λ inside. further (start inside) (λ then_inside one. typing then_inside (second then_inside.known) (λ then_more two.
    typing then_more (third then_more.known) (λ then_all three. further (in_scope then_all body) (λ behind made. goes_on behind (make one two three made)))))))
loop-grows s start second third body make f g =
    scope-grows s map.empty
    (λ inside. further (start inside) (λ then_inside one. typing then_inside (second then_inside.known) (λ then_more two.
    typing then_more (third then_more.known) (λ then_all three. further (in_scope then_all body) (λ behind made. goes_on behind (make one two three made))))))
    (λ t. further-grows t (start t)
    (λ then_inside one. typing then_inside (second then_inside.known) (λ then_more two.
    typing then_more (third then_more.known) (λ then_all three. further (in_scope then_all body) (λ behind made. goes_on behind (make one two three made)))))
    (f t)
    (λ u one. typing-grows u (second u.known)
    (λ then_more two. typing then_more (third then_more.known) (λ then_all three. further (in_scope then_all body) (λ behind made. goes_on behind (make one two three made))))
    (λ v two. typing-grows v (third v.known) (λ then_all three. further (in_scope then_all body) (λ behind made. goes_on behind (make one two three made)))
    (λ w three. part-grows w body (make one two three) g))))

-- items, one behind the other
more-grow : {A B C : Type 0} (s : Standing) (first : Progress A) (others : Standing → A → Progress B) (make : A → B → C)
    → GrowsTo s first → ((t : Standing) (it : A) → GrowsTo t (others t it))
    → GrowsTo s (further first (λ then_standing made. further (others then_standing made) (λ behind more. goes_on behind (make made more))))
more-grow s first others make f g =
    further-grows s first (λ then_standing made. further (others then_standing made) (λ behind more. goes_on behind (make made more))) f
    (λ t made. made-grows t (others t made) (make made) (g t made))

mutual
  unfolding typed_stmt

  pub stmt-grows : (setting : Setting) (within : Within) (s : Standing) (stmt : Stmt) → GrowsTo s (typed_stmt setting within s stmt)
  stmt-grows setting within s (tree.block span items) =
      scope-grows s map.empty (λ inside. further (typed_items_in setting within inside items) (λ behind trees. goes_on behind (statement setting span label.block trees)))
      (λ t. made-grows t (typed_items_in setting within t items) (statement setting span label.block) (block-grows setting within t items))
  stmt-grows setting within s (tree.expression span expr) = value-grows s (typed_optional setting s.known expr) (full_statement setting span)
  stmt-grows setting within s (tree.if_only span condition body) =
      headed-grows s (λ known. typed_condition setting known condition) (λ value part. typed_stmt setting within part body)
      (λ value made. statement setting span label.if_statement (value ∷ made ∷ [])) (λ value t. stmt-grows setting within t body)
  stmt-grows setting within s (tree.if_else span condition body other) =
      either-grows s (λ known. typed_condition setting known condition) (λ part. typed_stmt setting within part body) (λ part. typed_stmt setting within part other)
      (λ value first second. statement setting span label.if_statement (value ∷ first ∷ second ∷ []))
      (λ t. stmt-grows setting within t body) (λ t. stmt-grows setting within t other)
  stmt-grows setting within s (tree.switch span operand items) =
      headed-grows s (λ known. typed_subject setting known operand) (λ one part. typed_switch_items setting (in_switch within) one.kind part [] items)
      (λ one made. statement setting span label.switch (one.tree ∷ made.trees)) (λ one t. switch-items-grow setting (in_switch within) one.kind t [] items)
  stmt-grows setting within s (tree.while span condition body) =
      headed-grows s (λ known. typed_condition setting known condition) (λ value part. typed_stmt setting (in_loop within) part body)
      (λ value made. statement setting span label.while_loop (value ∷ made ∷ [])) (λ value t. stmt-grows setting (in_loop within) t body)
  stmt-grows setting within s (tree.do_while span body condition) =
      footed-grows s (λ part. typed_stmt setting (in_loop within) part body) (λ known. typed_condition setting known condition)
      (λ made value. statement setting span label.do_loop (made ∷ value ∷ [])) (λ t. stmt-grows setting (in_loop within) t body)
  stmt-grows setting within s (tree.for_loop span start condition step body) =
      loop-grows s (λ inside. typed_start setting inside start) (λ known. typed_optional_condition setting known condition) (λ known. typed_optional setting known step)
      (λ part. typed_stmt setting (in_loop within) part body) (for_statement setting span)
      (λ t. start-grows setting t start) (λ t. stmt-grows setting (in_loop within) t body)
  stmt-grows setting within s (tree.break span) =
      keeps-grows s within.breaks 33 span.first (goes_on s (statement setting span label.break [])) (there-grows s s (statement setting span label.break []) (grows-itself s))
  stmt-grows setting within s (tree.continue span) =
      keeps-grows s within.continues 33 span.first (goes_on s (statement setting span label.continue [])) (there-grows s s (statement setting span label.continue []) (grows-itself s))
  stmt-grows setting within s (tree.return span expr) = value-grows s (typed_return setting s.known within.result span expr) (λ made. made)

  pub block-grows : (setting : Setting) (within : Within) (s : Standing) (items : BlockItems) → GrowsTo s (typed_items_in setting within s items)
  block-grows setting within s tree.no_items = there-grows s s [] (grows-itself s)
  block-grows setting within s (tree.more_items first others) =
      more-grow s (typed_item_in setting within s first) (λ t made. typed_items_in setting within t others) (λ made more. made ∷ more)
      (block-item-grows setting within s first) (λ t made. block-grows setting within t others)

  block-item-grows : (setting : Setting) (within : Within) (s : Standing) (item : BlockItem) → GrowsTo s (typed_item_in setting within s item)
  block-item-grows setting within s (tree.declared_item declaration) = declared-in-grows setting s declaration
  block-item-grows setting within s (tree.stated_item stmt) = stmt-grows setting within s stmt

  switch-items-grow : (setting : Setting) (within : Within) (kind : Kind) (s : Standing) (labels : List (Option ℤ)) (items : SwitchItems)
      → GrowsTo s (typed_switch_items setting within kind s labels items)
  switch-items-grow setting within kind s labels tree.no_switch_items = there-grows s s (record { trees = []; labels = labels }) (grows-itself s)
  switch-items-grow setting within kind s labels (tree.more_switch_items first others) =
      more-grow s (typed_switch_item setting within kind s labels first) (λ t made. typed_switch_items setting within kind t made.labels others)
      (λ (made : Labelled) (more : AllLabelled). record { trees = made.tree ∷ more.trees; labels = more.labels })
      (switch-item-grows setting within kind s labels first) (λ t made. switch-items-grow setting within kind t made.labels others)

  switch-item-grows : (setting : Setting) (within : Within) (kind : Kind) (s : Standing) (labels : List (Option ℤ)) (item : SwitchItem)
      → GrowsTo s (typed_switch_item setting within kind s labels item)
  switch-item-grows setting within kind s labels (tree.case span expr item) =
      typing-grows s (typed_case setting s.known kind labels expr)
      (λ t one. further (typed_switch_item setting within kind t (Some one.value ∷ labels) item)
      (λ behind made. goes_on behind (record { tree = statement setting span label.case (one.tree ∷ made.tree ∷ []); labels = made.labels })))
      (λ t one. made-grows t (typed_switch_item setting within kind t (Some one.value ∷ labels) item)
      (λ made. record { tree = statement setting span label.case (one.tree ∷ made.tree ∷ []); labels = made.labels })
      (switch-item-grows setting within kind t (Some one.value ∷ labels) item))
  switch-item-grows setting within kind s labels (tree.default span item) =
      keeps-grows s (not (is_label_among None labels)) 31 span.first
      (further (typed_switch_item setting within kind s (None ∷ labels) item)
      (λ behind made. goes_on behind (record { tree = statement setting span label.default (made.tree ∷ []); labels = made.labels })))
      (made-grows s (typed_switch_item setting within kind s (None ∷ labels) item)
      (λ made. record { tree = statement setting span label.default (made.tree ∷ []); labels = made.labels })
      (switch-item-grows setting within kind s (None ∷ labels) item))
  switch-item-grows setting within kind s labels (tree.unlabelled span stmt) =
      made-grows s (typed_stmt setting within s stmt) (λ made. record { tree = made; labels = labels }) (stmt-grows setting within s stmt)
