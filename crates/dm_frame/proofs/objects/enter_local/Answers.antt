-- The declaration names the new object.
use Rattle.std.proofs.Common.{◌≡◌, ◌∷◌, [], List, ℕ, if◌then◌else◌, ap, sym, subst, ◌∙◌, rules}
use Rattle.dm_type.specs.Tables.{IsId}
use Rattle.dm_tree.specs.Views.{view_of_local}
use Rattle.dm_memory.specs.Blocks.{view_of_block, AreKnown}
use Rattle.dm_frame.specs.Entering.{automatic_one, IsEntered}
use Rattle.dm_program.specs.Sources.{meant}
use Rattle.dm_program.proofs.InitialLemmas.{local-declared}
use Rattle.dm_layout.specs.LaidOut.{laid_out}
use Rattle.dm_meaning.specs.Memory.{new_block}
use Rattle.dm_type.specs.Tables.{type_of}
use Rattle.dm_frame.proofs.EnterLemmas.{one-entered}
use Rattle.dm_frame.proofs.objects.enter_local.Goals as goal

pub returns-in_ok-make-in-Some : goal.returns-in_ok-make-in-Some
returns-in_ok-make-in-Some c =
    let program = meant c.args.program.now in
    let table = c.args.program.now.table in
    let one = (view_of_local table c.args.local.now).declarator in
    let kind : ℕ = c.in-Some.kind in
    let block = c.in_ok-block-in-Some.block in
    let automatic : automatic_one program one ≡ one.declared ∷ [] = ap (λ b. if b then one.declared ∷ [] else []) c.in-Some.ensures.0 in
    let names : automatic_one program one ≡ c.args.local.now.declared ∷ [] = automatic ∙ ap (λ d. d ∷ []) (local-declared table c.args.local.now) in
    let seen : view_of_block table block ≡ new_block (laid_out table) (type_of table kind) = search rules in
    let id : IsId table block.kind = search rules in
    subst (λ ds. IsEntered program ds c.args.objects.now c.args.blocks.now c.make.new.objects c.make.new.blocks) (sym names)
    (one-entered program c.args.local.now.declared kind block c.args.objects.now c.make.new.objects c.args.blocks.now c.make.new.blocks c.in-Some.ensures.1 seen
    c.in_ok-make-in-Some.ensures.objects c.in_ok-make-in-Some.ensures.blocks (c.in_ok-make-in-Some.ensures.known table c.requires id))
