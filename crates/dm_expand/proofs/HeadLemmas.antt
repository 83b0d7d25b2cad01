-- The cases at the head of a list.
use Rattle.std.proofs.Common.{List, refl}
use Rattle.dm_expand.specs.declared.head.Head as code_head
use Rattle.dm_expand.specs.declared.head.Head.TheVariants.{Put, Replace, Refuse}
use Rattle.dm_expand.specs.Items.{Item}
use Rattle.dm_expand.specs.HeadViews.{Stays, PutsNothing}

pub stays-same : (head : code_head.Head) (rest : List Item) → Stays head rest rest
stays-same (Put item) rest = refl
stays-same (Replace invocation) rest = tt
stays-same Refuse rest = tt

pub stays-nothing : (head : code_head.Head) (before after : List Item) → PutsNothing head → Stays head before after
stays-nothing (Put item) before after puts = absurd puts
stays-nothing (Replace invocation) before after puts = tt
stays-nothing Refuse before after puts = tt
