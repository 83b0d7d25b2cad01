-- Its name, and then its declarators.
use Rattle.std.proofs.Common.{Global, List, ap, sym}
use Rattle.std.specs.declared.vec.Vec.{Vec}
use Rattle.std.specs.List.{list_any}
use Rattle.dm_tree.specs.Trees.{Tree}
use Rattle.dm_tree.specs.Views.{view}
use Rattle.dm_meaning.specs.Statements.{Local}
use Rattle.dm_effect.specs.Entities.{addresses_here, locals_here}
use Rattle.dm_stable.specs.declared.marks.Mark.{Mark}
use Rattle.dm_stable.specs.declared.marks.Marks.{Marks}
use Rattle.dm_stable.specs.Marks.{Deed, Addresses, Defines, Initialises, Receives, Follows, does_local, does_name, marks_of}
use Rattle.dm_stable.proofs.MarkLemmas.{follows-as, follows-both, follows-none}
use Rattle.dm_stable.proofs.marks.note_node.Goals as goal

named : (tree : Tree) (marks : Marks) (addressed : Vec Mark Global) → Follows (λ d token. addresses_here d tree) marks.addressed.items addressed.items
    → (deed : Deed) → Follows (λ d token. does_name deed d tree) (marks_of deed marks) (marks_of deed (record marks { addressed = addressed }))
named tree marks addressed h Addresses = h
named tree marks addressed h Defines = follows-none marks.defined.items
named tree marks addressed h Initialises = follows-none marks.initialised.items
named tree marks addressed h Receives = follows-none marks.received.items

pub returns : goal.returns
returns c types deed =
    let tree = view types c.args.node.now in
    let marks : Marks = c.args.marks.now in
    let mid : List Mark = marks_of deed (record marks { addressed = c.note_address.new.addressed }) in
    let new : List Mark = marks_of deed c.note_locals.new.marks in
    follows-both (λ d token. does_name deed d tree) (λ d token. list_any (does_local deed d token) (locals_here tree)) (marks_of deed marks) mid new
    (named tree marks c.note_address.new.addressed (c.note_address.ensures types) deed)
    (follows-as _ (λ d token. list_any (does_local deed d token) (locals_here tree)) mid new
    (λ d token. ap (λ (all : List Local). list_any (does_local deed d token) all) (sym (c.locals_of.ensures types))) (c.note_locals.ensures types deed))
