-- The elements are complete, and all of them take so many bytes.
use Rattle.std.specs.Prelude.{◌≡◌, ◌<◌, ◌≤◌, ◌*◌, true, is_ok, Result, Ok, Err}
use Rattle.std.proofs.Common.{sym, ap, subst, ◌∙◌, arith, refl, mul_comm, le-mul_of_pos_right}
use Rattle.std.specs.Result.{OkIff}
use Rattle.dm_token.specs.Limits.{most_type_bytes}
use Rattle.dm_type.specs.Tables.{type_of}
use Rattle.dm_typing.specs.Views.{seen}
use Rattle.dm_edeclarator.proofs.DeclaratorStepLemmas.{array-known}
use Rattle.dm_edeclarator.proofs.declarators.array_length.Goals as goal

is-ok : {A E : Type 0} (answer : Result A E) (P : Type 0) (it : A) → OkIff answer P it → P → is_ok answer ≡ true
is-ok (Ok it) P other h holds = refl
is-ok (Err fault) P other h holds = absurd (h holds)

pub returns-clause-fits : goal.returns-clause-fits
returns-clause-fits c =
    let size = c.in_ok-size.size in
    let positive : 0 < size = c.in_ok-size.ensures.positive in
    let bytes : c.in_ok-bytes.bytes ≡ c.from.result * c.args.length = c.in_ok-bytes.ensures.1 in
    let wide : c.from.result ≡ size = c.from.ensures in
    let least : c.in_ok-bytes.bytes ≤ most_type_bytes = c.if-bytes-gt-MOST_TYPE_BYTES.false in
    let few : c.args.length * size ≤ most_type_bytes = subst (λ b. b ≤ most_type_bytes) (bytes ∙ (ap (λ f. f * c.args.length) wide ∙ mul_comm size c.args.length)) least in
    let fits : c.args.length < 18446744073709551616 = let below = le-mul_of_pos_right {m = size} c.args.length positive in omega (arith, below, few) in
    c.ok.ensures.variant ∙ is-ok c.try_from.result (c.args.length < 18446744073709551616) c.args.length c.try_from.ensures fits
    ∙ sym (array-known (seen c.args.known.now) (type_of c.args.known.now.types c.args.kind) c.args.length size c.in_ok-size.ensures.size few)
