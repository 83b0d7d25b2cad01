-- Good words say what is done, and other words are explained.
use Rattle.std.proofs.Common.{refl, map, option_map, string_bytes, subst}
use Rattle.dm_lines.specs.Outside.{outside}
use Rattle.dm_words.specs.Requests.{Asks, asked_by}
use Rattle.demacro.proofs.Steps.{ends_asked, ends_unasked}
use Rattle.demacro.proofs.top.run_words.Goals as goal

pub returns-in-Some-clause-ending : goal.returns-in-Some-clause-ending
returns-in-Some-clause-ending g c =
    ends_asked (map string_bytes c.args.words.now) (asked_by c.in-Some.request)
    (outside g.F.Folder g.S.Sink c.args.folder.now c.args.out.now)
    (outside g.F.Folder g.S.Sink c.serve.new.folder c.serve.new.out)
    c.serve.result (subst (λ found. Asks (map string_bytes c.args.words.now) (option_map asked_by found)) c.in-Some.is c.in_ok-request.ensures.asked) c.serve.ensures.ending

pub returns-in-None-clause-ending : goal.returns-in-None-clause-ending
returns-in-None-clause-ending g c =
    ends_unasked (map string_bytes c.args.words.now)
    (outside g.F.Folder g.S.Sink c.args.folder.now c.args.out.now)
    (outside g.F.Folder g.S.Sink c.args.folder.now c.explain_usage.new.out)
    c.explain_usage.result (subst (λ found. Asks (map string_bytes c.args.words.now) (option_map asked_by found)) c.in-None.is c.in_ok-request.ensures.asked) refl
    c.explain_usage.ensures.put c.explain_usage.ensures.status c.explain_usage.ensures.err
