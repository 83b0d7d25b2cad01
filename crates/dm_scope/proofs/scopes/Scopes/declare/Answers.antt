-- The innermost scope declares the name.
use Rattle.std.proofs.Common.{◌≡◌, ◌-◌, List, length, reverse, get_or, slice_set, arith, ap, ◌∙◌}
use Rattle.std.specs.FinMap as finite
use Rattle.dm_scope.specs.Scopes.{declared}
use Rattle.dm_name_map.specs.Numbers.{Numbers}
use Rattle.dm_scope.proofs.ScopeLemmas.{declared-last}
use Rattle.dm_scope.proofs.scopes.Scopes.declare.Goals as goal

pub returns-clause-declared : goal.returns-clause-declared
returns-clause-declared c _ =
    let maps : List Numbers = c.self.inside.maps.items in
    let inner : Numbers = c.index_mut-innermost.result.now in
    let new : c.insert.new.self ≡ finite.insert inner c.args.name.now c.args.number = c.in_ok-insert.ensures.ok ∙ ap (λ n. finite.insert inner n c.args.number) c.in_ok-copy.ensures in
    let len = c.len-last.ensures in
    let counted = c.self.inside.maps.ok in
    let n : c.len-last.result ≡ length maps = omega (arith, len, counted) in
    ap (λ m. reverse (slice_set maps (c.len-last.result - 1) m)) new
    ∙ ap (λ n. reverse (slice_set maps (n - 1) (finite.insert inner c.args.name.now c.args.number))) n
    ∙ declared-last maps inner c.args.name.now c.args.number c.self.invariant (c.index_mut-innermost.ensures.value ∙ ap (λ k. get_or maps (k - 1) inner) n)
    ∙ ap (λ scopes. declared scopes c.args.name.now c.args.number) c.self.view_is
