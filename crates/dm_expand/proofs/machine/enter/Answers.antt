use Rattle.std.proofs.Common.{◌≡◌, ◌++◌, ◌∷◌, [], List, Result, ap, ◌∙◌, sym}
use Rattle.dm_token.specs.declared.stop.Stop.{Stop}
use Rattle.dm_expand.specs.declared.machine.Level as code_level
use Rattle.dm_expand.specs.declared.machine.Waiting as code_waiting
use Rattle.dm_expand.specs.Items.{Item}
use Rattle.dm_expand.specs.Steps.{Output}
use Rattle.dm_expand.specs.Pastes.{Site}
use Rattle.dm_expand.specs.Works.{outward, scanned_on, load}
use Rattle.dm_expand.proofs.NeedsLemmas.{waits_with, taken_up-level, taken_up-same}
use Rattle.dm_expand.proofs.WorkLemmas.{enter-is, outward-push, load-push}
use Rattle.dm_expand.proofs.machine.enter.Goals as goal

pub returns-clause-ok : goal.returns-clause-ok
returns-clause-ok c = λ macros progress.
    let waiting : List code_waiting.Waiting = c.args.waiting.now.items in
    let before : code_level.Level = c.args.level.now in
    let after : code_level.Level = record { rest = c.give_back.new.self; out = c.replace-outer.result.out } in
    let waits : code_level.Level → Site → code_waiting.Waiting = λ level site. record { level = level; filling = record c.args.filling { site = site }; whole = c.args.whole } in
    let inner : code_level.Level = record { rest = c.of.result; out = c.new.result } in
    let now : Result Output Stop = scanned_on macros inner progress in
    let site : Site = c.args.filling.site in
    let others : List (List Item) = c.in_ok-argument.ensures.served.0 in
    let rest : after.rest ≡ before.rest = c.give_back.ensures ∙ ap (λ (level : code_level.Level). level.rest) c.replace-outer.ensures.value in
    let out : after.out.items ≡ before.out.items = ap (λ (level : code_level.Level). level.out.items) c.replace-outer.ensures.value in
    enter-is macros waiting (waits before site) inner progress c.new.ensures.items (c.of.ensures ∙ c.in_ok-argument.ensures.argument)
    ∙ outward-push macros waiting (waits before site) now
    ∙ ap (outward macros waiting) (sym (taken_up-level macros (waits before site) after now rest out))
    ∙ ap (outward macros waiting) (sym (taken_up-same macros (waits after site) others now c.in_ok-argument.ensures.served.2))
    ∙ sym (outward-push macros waiting (waits_with (waits after site) others) now)
    ∙ ap (λ (s : Site). outward macros (waiting ++ waits after s ∷ []) now) (sym c.in_ok-argument.ensures.served.1)
    ∙ ap (λ (ws : List code_waiting.Waiting). outward macros ws now) (sym c.in_ok-push.ensures.items)
    ∙ ap (λ (level : code_level.Level). outward macros c.push.new.self.items (scanned_on macros level progress)) (sym c.replace-outer.ensures.after)

pub returns-clause-load : goal.returns-clause-load
returns-clause-load c =
    ap load c.in_ok-push.ensures.items
    ∙ load-push c.args.waiting.now.items (record {
      level = record { rest = c.give_back.new.self; out = c.replace-outer.result.out };
      filling = record c.args.filling { site = c.take_argument.new.site };
      whole = c.args.whole;
    })
