-- Where the arguments can't be read, the exit code is the status that explains it.
use Rattle.std.proofs.Common.{map, drop, string_bytes, refl, sym, subst}
use Rattle.std.specs.IoError.{error_kind}
use Rattle.std.specs.Process.{exit_status}
use Rattle.demacro.specs.Arguments.{EndsUnread, items_of}
use Rattle.demacro.specs.Endings.{Ends}
use Rattle.dm_lines.specs.Outside.{outside}
use Rattle.demacro.proofs.Steps.{at_error, ends_unread}
use Rattle.demacro.proofs.process.run_process.Goals as goal

pub returns-in-Err : goal.returns-in-Err
returns-in-Err g c =
    let before = outside g.F.Folder g.S.Sink c.args.folder.now c.args.out.now in
    let after = outside g.F.Folder g.S.Sink c.args.folder.now c.explain_unread.new.out in
    let exit = exit_status c.from-in-Err.result in
    let unread = ends_unread c.kind.result before after c.explain_unread.result refl c.explain_unread.ensures.put c.explain_unread.ensures.wanting in
    let coded = subst (λ status. EndsUnread c.kind.result before after status) (sym c.from-in-Err.ensures) unread in
    let known = subst (λ kind. EndsUnread kind before after exit) c.kind.ensures coded in
    record {
      ending = at_error c.args.arguments c.in-Err.error
          (λ given. Ends (map string_bytes (drop 1 (items_of given))) before after exit)
          (λ error. EndsUnread (error_kind error) before after exit)
          c.in-Err.is known;
    }
