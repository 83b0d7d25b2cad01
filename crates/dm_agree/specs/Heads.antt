-- The forms of nodes without the trees below them.
--     label_of_head types head      the label
--     IsKnownHead n head      each number of a type is below n, and what is said to be a declaration is one
use Rattle.std.specs.Prelude.{◌≡◌, ℕ, ◌<◌, List, []}
use Rattle.dm_type.specs.Tables.{Table, type_of}
use Rattle.dm_tree.specs.declared.tree.Core.{Core}
use Rattle.dm_tree.specs.declared.tree.Form.{Form}
use Rattle.dm_tree.specs.declared.tree.Form.TheVariants as code
use Rattle.dm_tree.specs.declared.tree.Local.{Local}
use Rattle.dm_tree.specs.Trees as label
use Rattle.dm_tree.specs.Trees.{Label, Declarator}
use Rattle.dm_tree.specs.Views.{opened_form}
use Rattle.dm_agree.specs.declared.head.Head.{Head}
use Rattle.dm_agree.specs.declared.head.Head.TheVariants as head
use Rattle.dm_agree.specs.declared.head.Plain.{Plain}
use Rattle.dm_agree.specs.declared.head.Plain.TheVariants as plain

abbrev pub plain_label : Plain → Label
plain_label plain.Read = label.read
plain_label plain.Decay = label.decay
plain_label plain.Convert = label.convert
plain_label plain.Address = label.address
plain_label plain.Follow = label.follow
plain_label plain.Both = label.both
plain_label plain.Either = label.either
plain_label plain.Choose = label.choose
plain_label plain.Comma = label.comma
plain_label plain.Store = label.store
plain_label plain.Call = label.call
plain_label plain.SizeofTree = label.sizeof_tree
plain_label plain.Block = label.block
plain_label plain.Full = label.full
plain_label plain.Empty = label.empty
plain_label plain.If = label.if_statement
plain_label plain.Switch = label.switch
plain_label plain.Case = label.case
plain_label plain.Default = label.default
plain_label plain.While = label.while_loop
plain_label plain.Do = label.do_loop
plain_label plain.Break = label.break
plain_label plain.Continue = label.continue
plain_label plain.Return = label.return

-- how many trees of lengths and values a declaration has, and its declarators
abbrev pub lengths_told : Label → ℕ
lengths_told (label.declare lengths declarators) = lengths
lengths_told other = 0

abbrev pub declarators_told : Label → List Declarator
declarators_told (label.declare lengths declarators) = declarators
declarators_told other = []

abbrev pub declaring : Label → Label
declaring one = label.declare (lengths_told one) (declarators_told one)

abbrev pub IsDeclaration : Form → Type 0
IsDeclaration form = (lengths : List Core) × (locals : List Local) × (form ≡ code.Declare lengths locals)

abbrev pub label_of_head : Table → Head → Label
label_of_head types (head.Number value) = label.number value
label_of_head types (head.Enumerator at) = label.enumerator at
label_of_head types (head.Literal bytes unit) = label.literal bytes.now unit
label_of_head types (head.Object at) = label.object at
label_of_head types (head.Function at) = label.function at
label_of_head types (head.Member n) = label.member n
label_of_head types (head.Unary sign) = label.unary sign
label_of_head types (head.Binary op) = label.binary op
label_of_head types (head.Update op works) = label.update op (type_of types works)
label_of_head types (head.Count plus before) = label.count plus before
label_of_head types (head.SizeofKind type) = label.sizeof_kind (type_of types type)
label_of_head types (head.Declare form) = declaring (opened_form types form.now).label
label_of_head types (head.For first second third) = label.for_loop first second third
label_of_head types (head.Plain one) = plain_label one

abbrev pub IsKnownHead : ℕ → Head → Type 0
IsKnownHead n (head.Update op works) = works < n
IsKnownHead n (head.SizeofKind type) = type < n
IsKnownHead n (head.Declare form) = IsDeclaration form.now
IsKnownHead n other = Unit {0}
