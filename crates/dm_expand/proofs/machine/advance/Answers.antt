use Rattle.std.proofs.Common.{◌≡◌, ◌++◌, ◌==◌, ◌∷◌, [], ℕ, Bool, false, List, Option, None, Result, Ok, ap, ◌∙◌, sym, length, vec_len, arith, rules}
use Rattle.std.proofs.lemmas.List.{append-nil}
use Rattle.dm_token.specs.declared.stop.Stop.{Stop}
use Rattle.dm_expand.specs.declared.head.Invocation as code_invocation
use Rattle.dm_expand.specs.declared.machine.Level as code_level
use Rattle.dm_expand.specs.declared.machine.Waiting as code_waiting
use Rattle.dm_expand.specs.Items.{Item}
use Rattle.dm_expand.specs.Steps.{Progress, Output}
use Rattle.dm_expand.specs.Expansion.{Macros}
use Rattle.dm_expand.specs.HeadViews.{macros_of}
use Rattle.dm_expand.specs.ListViews.{gives, tokens_before}
use Rattle.dm_expand.specs.Works.{outward, load, scanned_on, found_on, taken_up}
use Rattle.dm_macro.proofs.NamedLemmas.{not_some}
use Rattle.dm_expand.proofs.ProgressLemmas.{follows_on}
use Rattle.dm_expand.proofs.StepLemmas.{stops_handed_as}
use Rattle.dm_expand.proofs.SubstitutionLemmas.{tokens_before-append, within_on}
use Rattle.dm_expand.proofs.WorkLemmas.{put_behind, outward-push, outward-put, outward-stops, load-push}
use Rattle.dm_expand.proofs.machine.advance.Goals as goal

-- what was put out of a list up to the next macro
scanned_to : (macros : Macros) (waiting : List code_waiting.Waiting) (level after : code_level.Level) (found : Option code_invocation.Invocation) (p : Progress) (whole : Result Output Stop) (before more : List Item)
    → whole ≡ tokens_before before (outward macros waiting (scanned_on macros level p)) → scanned_on macros level p ≡ tokens_before more (found_on macros after found p) → ((length waiting == 0) ≡ false → more ≡ [])
    → whole ≡ tokens_before (before ++ more) (outward macros waiting (found_on macros after found p))
scanned_to macros waiting level after found p whole before more all is none =
    all
    ∙ ap (λ (r : Result Output Stop). tokens_before before (outward macros waiting r)) is
    ∙ ap (tokens_before before) (outward-put macros waiting more (found_on macros after found p) none)
    ∙ tokens_before-append before more (outward macros waiting (found_on macros after found p))

-- the same where the list is done, and another one waits for it
waits_to : (macros : Macros) (waiting popped : List code_waiting.Waiting) (waits : code_waiting.Waiting) (level after : code_level.Level) (found : Option code_invocation.Invocation) (p : Progress) (whole : Result Output Stop) (before more : List Item)
    → whole ≡ tokens_before before (outward macros waiting (scanned_on macros level p)) → scanned_on macros level p ≡ tokens_before more (found_on macros after found p) → ((length waiting == 0) ≡ false → more ≡ [])
    → found ≡ None → waiting ≡ popped ++ waits ∷ [] → whole ≡ tokens_before (before ++ more) (outward macros popped (taken_up macros waits (Ok (gives after.out.items p))))
waits_to macros waiting popped waits level after found p whole before more all is none done are =
    let given : Result Output Stop = Ok (gives after.out.items p) in
    scanned_to macros waiting level after found p whole before more all is none
    ∙ ap (λ (f : Option code_invocation.Invocation). tokens_before (before ++ more) (outward macros waiting (found_on macros after f p))) done
    ∙ ap (λ (ws : List code_waiting.Waiting). tokens_before (before ++ more) (outward macros ws given)) are
    ∙ ap (tokens_before (before ++ more)) (outward-push macros popped waits given)

-- where another list waits, nothing is put out
none_put : (length waited : ℕ) (outermost : Bool) (more : List Item) → outermost ≡ (waited == 0) → waited ≡ length → (outermost ≡ false → more ≡ []) → (length == 0) ≡ false → more ≡ []
none_put length waited outermost more is counted none inner = none (is ∙ ap (λ n. n == 0) counted ∙ inner)

pub returns-in_err-found-clause-stop : goal.returns-in_err-found-clause-stop
returns-in_err-found-clause-stop c =
    let macros : Macros = macros_of c.args.macros.now in
    let waiting : List code_waiting.Waiting = c.levels.waiting.items in
    stops_handed_as c.from_residual.result c.in_err-found.field-0.0 (scanned_on macros c.levels.level c.levels.progress) _ c.from_residual.ensures.1
    (λ other is. c.levels.invariant.2 ∙ ap (tokens_before c.levels.invariant.0) (ap (outward macros waiting) is ∙ outward-stops macros waiting other))
    c.in_err-found.ensures.stop

pub returns-then-is_some-clause-found : goal.returns-then-is_some-clause-found
returns-then-is_some-clause-found c =
    let macros : Macros = macros_of c.args.macros.now in
    let more : List Item = c.in_ok-found.ensures.found.0 in
    let counted : vec_len c.levels.waiting ≡ length c.levels.waiting.items = search rules in
    let none = none_put (length c.levels.waiting.items) (vec_len c.levels.waiting) c.is_empty-outermost.result more c.is_empty-outermost.ensures counted c.in_ok-found.ensures.found.1.1 in (
      c.levels.invariant.0 ++ more,
      put_behind c.args.put.now.items c.levels.put.items c.scan.new.put.items c.levels.invariant.0 more c.levels.invariant.1 c.in_ok-found.ensures.found.1.0,
      scanned_to macros c.levels.waiting.items c.levels.level c.scan.new.level c.in_ok-found.found c.levels.progress _ c.levels.invariant.0 more c.levels.invariant.2 c.in_ok-found.ensures.found.2 none,
    )

pub returns-in_default-clause-found : goal.returns-in_default-clause-found
returns-in_default-clause-found c =
    let macros : Macros = macros_of c.args.macros.now in
    let more : List Item = c.in_ok-found.ensures.found.0 in
    let all : List Item = c.levels.invariant.0 ++ more in
    let done : Result Output Stop = Ok (gives c.scan.new.level.out.items c.levels.progress) in
    let counted : vec_len c.levels.waiting ≡ length c.levels.waiting.items = search rules in
    let none = none_put (length c.levels.waiting.items) (vec_len c.levels.waiting) c.is_empty-outermost.result more c.is_empty-outermost.ensures counted c.in_ok-found.ensures.found.1.1 in (
      all,
      put_behind c.args.put.now.items c.levels.put.items c.scan.new.put.items c.levels.invariant.0 more c.levels.invariant.1 c.in_ok-found.ensures.found.1.0,
      scanned_to macros c.levels.waiting.items c.levels.level c.scan.new.level c.in_ok-found.found c.levels.progress _ c.levels.invariant.0 more c.levels.invariant.2 c.in_ok-found.ensures.found.2 none
          ∙ ap (λ (f : Option code_invocation.Invocation). tokens_before all (outward macros c.levels.waiting.items (found_on macros c.scan.new.level f c.levels.progress))) (not_some c.in_ok-found.found (sym c.if-is_some.ensures))
          ∙ ap (λ (ws : List code_waiting.Waiting). tokens_before all (outward macros ws done)) (c.in_default.ensures.items ∙ append-nil c.pop.new.self.items),
    )

pub returns-in_err-take_up-clause-stop : goal.returns-in_err-take_up-clause-stop
returns-in_err-take_up-clause-stop c =
    let macros : Macros = macros_of c.args.macros.now in
    let more : List Item = c.in_ok-found.ensures.found.0 in
    let popped : List code_waiting.Waiting = c.pop.new.self.items in
    let done : Result Output Stop = Ok (gives c.scan.new.level.out.items c.levels.progress) in
    let counted : vec_len c.levels.waiting ≡ length c.levels.waiting.items = search rules in
    let none = none_put (length c.levels.waiting.items) (vec_len c.levels.waiting) c.is_empty-outermost.result more c.is_empty-outermost.ensures counted c.in_ok-found.ensures.found.1.1 in
    let up = waits_to macros c.levels.waiting.items popped c.in-Some.waits c.levels.level c.scan.new.level c.in_ok-found.found c.levels.progress _ c.levels.invariant.0 more c.levels.invariant.2 c.in_ok-found.ensures.found.2 none (not_some c.in_ok-found.found (sym c.if-is_some.ensures)) c.in-Some.ensures.items in
    stops_handed_as c.from_residual-in_err-take_up.result c.in_err-take_up.field-0.0 (taken_up macros c.in-Some.waits done) _ c.from_residual-in_err-take_up.ensures.1
    (λ other is. up ∙ ap (tokens_before (c.levels.invariant.0 ++ more)) (ap (outward macros popped) is ∙ outward-stops macros popped other))
    c.in_err-take_up.ensures.stop

pub levels-smaller : goal.levels-smaller
levels-smaller c = omega (arith, c.in_ok-take_up.ensures.load, ap load c.in-Some.ensures.items ∙ load-push c.pop.new.self.items c.in-Some.waits)

pub levels-preserved : goal.levels-preserved
levels-preserved c =
    let macros : Macros = macros_of c.args.macros.now in
    let more : List Item = c.in_ok-found.ensures.found.0 in
    let all : List Item = c.levels.invariant.0 ++ more in
    let counted : vec_len c.levels.waiting ≡ length c.levels.waiting.items = search rules in
    let none = none_put (length c.levels.waiting.items) (vec_len c.levels.waiting) c.is_empty-outermost.result more c.is_empty-outermost.ensures counted c.in_ok-found.ensures.found.1.1 in (
      all,
      put_behind c.args.put.now.items c.levels.put.items c.scan.new.put.items c.levels.invariant.0 more c.levels.invariant.1 c.in_ok-found.ensures.found.1.0,
      waits_to macros c.levels.waiting.items c.pop.new.self.items c.in-Some.waits c.levels.level c.scan.new.level c.in_ok-found.found c.levels.progress _ c.levels.invariant.0 more c.levels.invariant.2 c.in_ok-found.ensures.found.2 none
          (not_some c.in_ok-found.found (sym c.if-is_some.ensures)) c.in-Some.ensures.items
          ∙ ap (tokens_before all) c.in_ok-take_up.ensures.ok,
      follows_on _ c.levels.progress _ c.levels.invariant.3 c.in_ok-take_up.ensures.follows,
      within_on c.levels.progress _ c.levels.invariant.4 c.in_ok-take_up.ensures.follows,
    )
