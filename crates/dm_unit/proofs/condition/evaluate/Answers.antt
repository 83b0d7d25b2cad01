use Rattle.std.proofs.Common.{◌++◌, List, ℕ, map, sym, ap, ◌∙◌, subst}
use Rattle.std.specs.List.{list_any}
use Rattle.dm_token.specs.declared.token.PpToken.{PpToken}
use Rattle.dm_token.specs.declared.token.Token.{Token}
use Rattle.dm_token.specs.declared.expansion.Expansion.{Expansion}
use Rattle.dm_token.specs.declared.unit.Use.{Use}
use Rattle.dm_macro.specs.Tables.{Table}
use Rattle.dm_expand.specs.Expansion.{expansion_of}
use Rattle.dm_expand.specs.AnswerViews.{looked_up}
use Rattle.dm_cond.specs.Answers.{Refuses}
use Rattle.dm_cond.specs.Readings.{HasTruth}
use Rattle.dm_unit.specs.declared.reader.Reader.{Reader}
use Rattle.dm_unit.specs.Loaders.{shown}
use Rattle.dm_unit.specs.Conditions.{AreInOrder, is_defined_word, replaced, names_asked, use_by}
use Rattle.dm_unit.specs.Views.{state_of}
use Rattle.dm_unit.proofs.StepLemmas.{judge-stops, judge-ok, judge-faultless, evaluated-state}
use Rattle.dm_unit.proofs.condition.evaluate.Goals as goal

pub returns-in-Err-clause-tests : goal.returns-in-Err-clause-tests
returns-in-Err-clause-tests c =
    let reader = c.args.reader.now in
    let names = c.args.loader.now.names in
    let expanded = c.in_ok-expanded.expanded in
    let is = sym (ap (λ (ns : List (List ℕ)). expansion_of (looked_up reader.table ns) (replaced reader.table c.args.operands.now) reader.instance reader.work.spent) c.names.ensures.names)
    ∙ sym (ap (λ (ts : List PpToken). expansion_of (looked_up reader.table c.names.result.now) ts reader.instance reader.work.spent) (c.deref.ensures.value ∙ c.in_ok-replaced.ensures.tokens))
    ∙ c.in_ok-expanded.ensures.expands.is in
    judge-stops reader.main c.args.start.now c.args.operands.now (state_of reader (shown c.args.loader.now)) expanded.tokens expanded.expansions c.expand_in.new.reader.work.spent c.in-Err.stop is
    (sym (ap (list_any (λ (token : Token). is_defined_word token.pp)) c.items.ensures) ∙ sym c.has_defined.ensures ∙ c.if-has_defined.false)
    (subst (λ (ts : List Token). Refuses ts c.args.start.now.place c.in-Err.stop) c.items-2.ensures c.in-Err.ensures.stop)

pub returns-in-Err-clause-faultless : goal.returns-in-Err-clause-faultless
returns-in-Err-clause-faultless c = judge-faultless _ _ c.in-Err.stop c.in-Err.ensures.stop

pub returns-clause-tests : goal.returns-clause-tests
returns-clause-tests c =
    let reader = c.args.reader.now in
    let names = c.args.loader.now.names in
    let expanded = c.in_ok-expanded.expanded in
    let stays = c.in_ok-expanded.ensures.expands.stays in
    let uses = c.in_ok-uses.uses.items in
    let is = sym (ap (λ (ns : List (List ℕ)). expansion_of (looked_up reader.table ns) (replaced reader.table c.args.operands.now) reader.instance reader.work.spent) c.names.ensures.names)
    ∙ sym (ap (λ (ts : List PpToken). expansion_of (looked_up reader.table c.names.result.now) ts reader.instance reader.work.spent) (c.deref.ensures.value ∙ c.in_ok-replaced.ensures.tokens))
    ∙ c.in_ok-expanded.ensures.expands.is in
    judge-ok reader.main c.args.start.now c.args.operands.now (state_of reader (shown c.args.loader.now)) _ expanded.tokens expanded.expansions c.expand_in.new.reader.work.spent c.in-Ok.truth uses is
    (sym (ap (list_any (λ (token : Token). is_defined_word token.pp)) c.items.ensures) ∙ sym c.has_defined.ensures ∙ c.if-has_defined.false)
    (subst (λ (ts : List Token). HasTruth ts c.in-Ok.truth) c.items-2.ensures c.in-Ok.ensures.value)
    (subst (λ (made : List Expansion). AreInOrder (names_asked reader.table c.args.operands.now ++ map (use_by reader.table) made) uses) c.items-3.ensures
    (subst (λ (table : Table). AreInOrder (names_asked reader.table c.args.operands.now ++ map (use_by table) c.items-3.result.now) uses) (ap (λ (r : Reader). r.table) stays)
    (subst (λ (asked : List Use). AreInOrder (asked ++ map (use_by c.expand_in.new.reader.table) c.items-3.result.now) uses) c.in_ok-replaced.ensures.uses c.in_ok-uses.ensures)))
    (evaluated-state reader c.expand_in.new.reader c.append.new.self (shown c.args.loader.now) expanded.tokens expanded.expansions uses stays c.in_ok-append.ensures.items)
