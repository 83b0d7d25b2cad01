use Rattle.std.proofs.Common.{◌≡◌, List, ◌∷◌, sym, subst}
use Rattle.dm_parentheses.specs.declared.ends.Token.{Token}
use Rattle.dm_parentheses.specs.Table.{all_ends, signs_of, distances_of}
use Rattle.dm_parentheses.proofs.TableLemmas.{all_ends-more}
use Rattle.dm_parentheses.proofs.ends.Ends.put_in_front.Goals as goal

pub invariant_of-self-2 : goal.invariant_of-self-2
invariant_of-self-2 c =
    let token : Token = record { sign = c.args.sign; distance = c.distance_from-distance.result } in
    let more = all_ends-more c.self.inside.tokens.items c.args.self.now token c.self.view_is c.self.invariant c.distance_from-distance.ensures in
    let pushed : c.push_front.new.self.items ≡ token ∷ c.self.inside.tokens.items = c.in_ok-push_front.ensures.items in
    subst (λ (tokens : List Token). distances_of tokens ≡ all_ends (signs_of tokens)) (sym pushed) more
