use Rattle.std.proofs.Common.{◌≡◌, ◌+◌, ◌&&◌, ◌||◌, ◌++◌, ◌∷◌, [], not, sym, ◌∙◌, ap, subst, List, ℕ, Ok, Err, codes, bytes_eq, length}
use Rattle.std.specs.List.{list_any}
use Rattle.serde_json.specs.View.{view, items_view}
use Rattle.dm_manifest.specs.declared.fault.ManifestFault.TheVariants.{Define}
use Rattle.dm_manifest.specs.Paths.{unit_path, under, item_path}
use Rattle.dm_manifest.specs.Values.{each_of}
use Rattle.dm_macro.specs.Signs.{is_fixed}
use Rattle.dm_manifest.specs.Defines.{name_of, is_define}
use Rattle.dm_manifest.specs.Units.{define_at, is_defined}
use Rattle.dm_manifest.proofs.Each.{GoesOn, item_read, item_at_fault, all_read}
use Rattle.dm_manifest.proofs.Steps.{passed_on, define_from, may_be_next, define_at-some, define_at-fault, is_defined-append, OnTrue-gives}
use Rattle.dm_manifest.proofs.unit.each_define.Goals as goal

pub loop-value-init : goal.loop-value-init
unfolding is_defined
loop-value-init c =
    let path : List ℕ = under (unit_path c.args.unit) (codes "define") in (
      (ap (λ defines. each_of (define_at path) defines (items_view c.args.values.now)) c.new-defines.ensures, ap length c.new-defines.ensures),
      λ q. ap (list_any (λ name. bytes_eq q name.now)) c.new-names.ensures.empty ∙ sym (ap (λ defines. is_defined defines q) c.new-defines.ensures),
    )

pub loop-value-preserved : goal.loop-value-preserved
loop-value-preserved c =
    let path : List ℕ = under (unit_path c.args.unit) (codes "define") in
    let define : List ℕ = c.in_ok-define.define.now in
    let before : List (List ℕ) = c.loop-value.defines in
    let next : c.in_ok-may.may ≡ may_be_next before define = c.in_ok-may.ensures.answer ∙ ap (λ held. is_define define && not (is_fixed (name_of define)) && not held) (c.loop-value.invariant.1 (name_of define)) in
    let reads : define_at path before (view c.value-item.result) ≡ Ok define =
    define_at-some path before (view c.value-item.result) c.len.result define c.in_ok-may.may c.len.ensures c.in_ok-define.ensures next
    ∙ ap (λ may. define_from (item_path path c.len.result) may define) c.if-not-may.false in
    let grown : c.push.new.self ≡ before ++ define ∷ [] = c.in_ok-push.ensures.ok ∙ ap (λ text. before ++ text ∷ []) c.in_ok-text.ensures in (
      subst (λ (defines : List (List ℕ)). GoesOn (define_at path) c.args.values.now (c.loop-value.value-index + 1) defines) (sym grown)
          (item_read (define_at path) c.args.values.now c.loop-value.value-index c.value-item.result before define c.loop-value-test.true c.value-item.is c.loop-value.invariant.0 reads),
      λ q. OnTrue-gives c.in_ok-may.may _ c.if-not-may.false c.in_ok-may.ensures.names q
          ∙ ap (λ held. held || bytes_eq q (name_of define)) (c.loop-value.invariant.1 q)
          ∙ sym (is_defined-append before define q) ∙ ap (λ defines. is_defined defines q) (sym grown),
    )

pub returns-in_err-define : goal.returns-in_err-define
returns-in_err-define c =
    let path : List ℕ = under (unit_path c.args.unit) (codes "define") in
    passed_on (λ defines. defines) c.from_residual.result c.in_err-define.field-0.0 _ c.from_residual.ensures.1
    (item_at_fault (define_at path) c.args.values.now c.loop-value.value-index c.value-item.result c.loop-value.defines c.in_err-define.field-0.0 c.loop-value-test.true c.value-item.is c.loop-value.invariant.0
    (define_at-fault path c.loop-value.defines (view c.value-item.result) c.len.result c.in_err-define.field-0.0 c.len.ensures c.in_err-define.ensures))

pub returns-then-not-may : goal.returns-then-not-may
returns-then-not-may c =
    let path : List ℕ = under (unit_path c.args.unit) (codes "define") in
    let define : List ℕ = c.in_ok-define.define.now in
    let before : List (List ℕ) = c.loop-value.defines in
    let next : c.in_ok-may.may ≡ may_be_next before define = c.in_ok-may.ensures.answer ∙ ap (λ held. is_define define && not (is_fixed (name_of define)) && not held) (c.loop-value.invariant.1 (name_of define)) in
    let named : c.in_ok-path.path ≡ item_path path c.len.result = c.in_ok-path.ensures ∙ ap (item_path path) (c.len-then-not-may.ensures ∙ sym c.len.ensures) in
    item_at_fault (define_at path) c.args.values.now c.loop-value.value-index c.value-item.result before (Define c.in_ok-path.path) c.loop-value-test.true c.value-item.is c.loop-value.invariant.0
    (define_at-some path before (view c.value-item.result) c.len.result define c.in_ok-may.may c.len.ensures c.in_ok-define.ensures next
    ∙ ap (λ may. define_from (item_path path c.len.result) may define) c.if-not-may.true ∙ ap (λ p. Err (Define p)) (sym named))

pub returns : goal.returns
returns c = all_read (define_at (under (unit_path c.args.unit) (codes "define"))) c.args.values.now c.loop-value.value-index c.loop-value.defines c.loop-value-test.false c.loop-value.invariant.0
