-- Those of each kind together.
use Rattle.std.proofs.Common.{◌≡◌, ℕ, ◌+◌, Bool, cond, Bor, Option, List, [], ◌++◌, map, sym, ap, ◌∙◌, arith}
use Rattle.std.specs.Prelude.{option_map}
use Rattle.std.specs.Option.{option_copied}
use Rattle.dm_type.specs.Tables.{Table}
use Rattle.dm_tree.specs.declared.tree.Core.{Core}
use Rattle.dm_tree.specs.declared.tree.Local.{Local}
use Rattle.dm_tree.specs.Trees.{Tree, parts_of}
use Rattle.dm_tree.specs.Units.{TypedUnit}
use Rattle.dm_tree.specs.Views.{view, view_of_unit, view_of_local, expressions_of_locals, if_there}
use Rattle.dm_effect.specs.Sequencing.{is_unsequenced}
use Rattle.dm_sites.proofs.NodeLemmas.{label-view, parts-view}
use Rattle.dm_around.specs.Noises.{noisy_among}
use Rattle.dm_around.proofs.NoiseLemmas.{noisy-append, unsequenced-expression}
use Rattle.dm_around.proofs.noise.noisy_operands.Goals as goal

together : (one : TypedUnit) (a b c d e f : List Tree) (i j k l n : ℕ) → i ≡ noisy_among one a → j ≡ noisy_among one b → k ≡ noisy_among one c → l ≡ noisy_among one d → n ≡ noisy_among one e → f ≡ []
    → i + j + (k + l) + n ≡ noisy_among one (a ++ (b ++ (c ++ (d ++ (e ++ f)))))
together one a b c d e f i j k l n first second third fourth fifth none =
    let p = noisy-append one a (b ++ (c ++ (d ++ (e ++ f)))) in
    let q = noisy-append one b (c ++ (d ++ (e ++ f))) in
    let r = noisy-append one c (d ++ (e ++ f)) in
    let s = noisy-append one d (e ++ f) in
    let t = noisy-append one e f in
    let u : noisy_among one f ≡ 0 = ap (noisy_among one) none in
    omega (arith, p, q, r, s, t, u, first, second, third, fourth, fifth)

abbrev single : Table → Option (Bor Core) → List Tree
single types found = if_there (option_map (view types) (option_copied found))

pub returns-then-not-is_unsequenced : goal.returns-then-not-is_unsequenced
returns-then-not-is_unsequenced c types =
    let one = view_of_unit types c.args.quiet.now in
    let tree = view types c.args.tree.now in
    sym (ap (λ (b : Bool). cond b (noisy_among one (parts_of tree)) 0) (ap is_unsequenced (label-view types c.args.tree.now) ∙ (c.is_unsequenced.ensures types ∙ c.if-not-is_unsequenced.true)))

pub returns : goal.returns
returns c types =
    let one = view_of_unit types c.args.quiet.now in
    let tree = view types c.args.tree.now in
    let parts = c.parts_of-parts.result in
    let unsequenced = c.is_unsequenced.ensures types ∙ c.if-not-is_unsequenced.false in
    together one (single types parts.first) (single types parts.second) (single types parts.third) (single types parts.fourth) (map (view types) parts.items.now) (expressions_of_locals (map (view_of_local types) parts.locals.now))
    c.noise_in.result c.noise_in-2.result c.noise_in-3.result c.noise_in-4.result c.noisy_among.result
    (c.noise_in.ensures.same types) (c.noise_in-2.ensures.same types) (c.noise_in-3.ensures.same types) (c.noise_in-4.ensures.same types) (c.noisy_among.ensures.same types)
    (ap (λ (locals : List Local). expressions_of_locals (map (view_of_local types) locals)) (c.parts_of-parts.ensures.expression types (unsequenced-expression _ unsequenced)))
    ∙ (ap (noisy_among one) (c.parts_of-parts.ensures.same types ∙ sym (parts-view types c.args.tree.now))
    ∙ sym (ap (λ (b : Bool). cond b (noisy_among one (parts_of tree)) 0) (ap is_unsequenced (label-view types c.args.tree.now) ∙ unsequenced)))
