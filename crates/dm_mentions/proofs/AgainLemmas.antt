-- The first events of a name, and the next ones.
use Rattle.std.proofs.Common.{◌≡◌, ℕ, zero, suc, ◌+◌, ◌-◌, ◌<◌, Bool, true, false, cond, List, [], ◌∷◌, drop, length, Option, Some, None, slice_get, bytes_eq, refl, sym, ap, subst, ◌∙◌, arith}
use Rattle.std.specs.Prelude.{filter}
use Rattle.std.specs.List.{position_from}
use Rattle.std.specs.FinMap as finite
use Rattle.std.proofs.lemmas.List.{length-drop}
use Rattle.dm_token.specs.declared.unit.UnitTokens.{UnitTokens}
use Rattle.dm_name_map.specs.Numbers.{Numbers}
use Rattle.dm_macro.proofs.SameLemmas.{bytes_equal}
use Rattle.dm_mentions.specs.declared.events.Event.{Event}
use Rattle.dm_mentions.specs.Mentions.{name_of, is_name, first_from, first_named, nexts, is_reading, without_first, events_of, again, AreChains}
use Rattle.dm_mentions.specs.Mentions as mentions
use Rattle.dm_mentions.proofs.FindLemmas.{IsFirst, first-at, none-there}
use Rattle.dm_mentions.proofs.ChainLemmas.{named, nexts-more, nexts-nothing}

get-drop : {A : Type 0} (n : ℕ) (things : List A) (i : ℕ) → slice_get (drop n things) i ≡ slice_get things (n + i)
get-drop zero things i = let same : i ≡ 0 + i = omega arith in ap (slice_get things) same
get-drop (suc n) [] i = refl
get-drop (suc n) (thing ∷ things) i = let same : suc (n + i) ≡ suc n + i = omega arith in get-drop n things i ∙ ap (slice_get (thing ∷ things)) same

-- the chain behind each event
chain-at : (pp : UnitTokens) (at : ℕ) (events : List Event) (k : ℕ) (event : Event) → slice_get events k ≡ Some event
    → slice_get (nexts pp at events) k ≡ Some (first_named pp (at + k + 1) (name_of pp event) (drop (suc k) events))
chain-at pp at [] k event is = cc
chain-at pp at (first ∷ events) zero event is =
    let same : first ≡ event = cc is in
    let count : at + 1 ≡ at + 0 + 1 = omega arith in
    ap (λ all. slice_get all 0) (nexts-more pp at first events)
    ∙ ap (λ n. Some (first_named pp n (name_of pp first) events)) count
    ∙ ap (λ one. Some (first_named pp (at + 0 + 1) (name_of pp one) events)) same
chain-at pp at (first ∷ events) (suc k) event is =
    let count : at + 1 + k + 1 ≡ at + suc k + 1 = omega arith in
    ap (λ all. slice_get all (suc k)) (nexts-more pp at first events)
    ∙ chain-at pp (at + 1) events k event is
    ∙ ap (λ n. Some (first_named pp n (name_of pp event) (drop (suc k) events))) count

pub as-many : (pp : UnitTokens) (at : ℕ) (events : List Event) → length (nexts pp at events) ≡ length events
as-many pp at [] = ap length (nexts-nothing pp at)
as-many pp at (event ∷ events) = ap length (nexts-more pp at event events) ∙ ap suc (as-many pp (at + 1) events)

has-name : (name : List ℕ) (found : Option (List ℕ)) → is_name name found ≡ true → found ≡ Some name
has-name name None is = cc
has-name name (Some other) is = ap Some (sym (bytes_equal name other is))

-- another event than the first one, if that is the first reading of the definition
head-of : (test : Event → Bool) (event : Event) (others : List Event) → slice_get (without_first test (event ∷ others)) 0 ≡ cond (test event) (slice_get others 0) (Some event)
head-of test event others = by (test event) refl
  where
    by : (b : Bool) → test event ≡ b → slice_get (without_first test (event ∷ others)) 0 ≡ cond (test event) (slice_get others 0) (Some event)
    by true is = ap (λ b. slice_get (cond b others (event ∷ without_first test others)) 0) is ∙ sym (ap (λ b. cond b (slice_get others 0) (Some event)) is)
    by false is = ap (λ b. slice_get (cond b others (event ∷ without_first test others)) 0) is ∙ sym (ap (λ b. cond b (slice_get others 0) (Some event)) is)

pub linked : (pp : UnitTokens) (events : List Event) (first : Numbers) (next : List (Option ℕ)) → events ≡ mentions.events pp → AreChains pp 0 events first next
    → AreChains pp 0 (mentions.events pp) first next
linked pp events first next is chains = subst (λ all. AreChains pp 0 all first next) is chains

module _ (pp : UnitTokens) (file hash : ℕ) (name : List ℕ) (first : Numbers) (next : List (Option ℕ)) (chains : AreChains pp 0 (mentions.events pp) first next) where
  pub none-named : finite.get first name ≡ None → again pp file hash name ≡ None
  none-named is = ap (λ events. slice_get (without_first (is_reading pp file hash) events) 0) (none-there (named pp name) 0 (mentions.events pp) (sym (chains.0 name) ∙ is)).filtered

  module _ (at : ℕ) (is : finite.get first name ≡ Some at) where
    abbrev pub found : IsFirst (named pp name) 0 (mentions.events pp) at
    found = first-at (named pp name) 0 (mentions.events pp) at (sym (chains.0 name) ∙ is)

    same : at - 0 ≡ at
    same = omega arith

    pub first-inside : at < length (mentions.events pp)
    first-inside = let inside = found.inside in omega (arith, inside)

    pub next-inside : at < length next
    next-inside = let inside = found.inside in let many = ap length chains.1 ∙ as-many pp 0 (mentions.events pp) in omega (arith, inside, many)

    pub first-there : slice_get (mentions.events pp) at ≡ Some found.thing
    first-there = ap (slice_get (mentions.events pp)) (sym same) ∙ found.there

    abbrev pub behind : List Event
    behind = drop (suc at) (mentions.events pp)

    of-name : events_of pp name ≡ found.thing ∷ filter (named pp name) behind
    of-name = found.filtered ∙ ap (λ n. found.thing ∷ filter (named pp name) (drop (suc n) (mentions.events pp))) same

    answer : again pp file hash name ≡ cond (is_reading pp file hash found.thing) (slice_get (filter (named pp name) behind) 0) (Some found.thing)
    answer = ap (λ events. slice_get (without_first (is_reading pp file hash) events) 0) of-name ∙ head-of (is_reading pp file hash) found.thing (filter (named pp name) behind)

    -- the first one is another
    pub another : (event : Event) → slice_get (mentions.events pp) at ≡ Some event → is_reading pp file hash event ≡ false → again pp file hash name ≡ Some event
    another event there other =
        let one : found.thing ≡ event = cc (sym first-there ∙ there) in
        answer ∙ ap (λ event. cond (is_reading pp file hash event) (slice_get (filter (named pp name) behind) 0) (Some event)) one
        ∙ ap (λ b. cond b (slice_get (filter (named pp name) behind) 0) (Some event)) other

    chained : slice_get next at ≡ Some (position_from (named pp name) (at + 1) behind)
    chained =
        let count : 0 + at + 1 ≡ at + 1 = omega arith in
        ap (λ all. slice_get all at) chains.1 ∙ chain-at pp 0 (mentions.events pp) at found.thing first-there
        ∙ ap (λ n. Some (first_named pp n (name_of pp found.thing) behind)) count
        ∙ ap (λ known. Some (first_named pp (at + 1) known behind)) (has-name name (name_of pp found.thing) found.passes)

    module _ (event : Event) (there : slice_get (mentions.events pp) at ≡ Some event) (reading : is_reading pp file hash event ≡ true) where
      behind-first : again pp file hash name ≡ slice_get (filter (named pp name) behind) 0
      behind-first =
          let one : found.thing ≡ event = cc (sym first-there ∙ there) in
          answer ∙ ap (λ event. cond (is_reading pp file hash event) (slice_get (filter (named pp name) behind) 0) (Some event)) one
          ∙ ap (λ b. cond b (slice_get (filter (named pp name) behind) 0) (Some event)) reading

      pub none-behind : slice_get next at ≡ Some None → again pp file hash name ≡ None
      none-behind none = behind-first ∙ ap (λ events. slice_get events 0) (none-there (named pp name) (at + 1) behind (cc (sym chained ∙ none))).filtered

      module _ (after : ℕ) (some : slice_get next at ≡ Some (Some after)) where
        found-behind : IsFirst (named pp name) (at + 1) behind after
        found-behind = first-at (named pp name) (at + 1) behind after (cc (sym chained ∙ some))

        pub inside-behind : after < length (mentions.events pp)
        inside-behind =
            let front = found-behind.behind in
            let inside = found-behind.inside in
            let left = length-drop (suc at) (mentions.events pp) in
            omega (arith, front, inside, left)

        pub next-there : slice_get (mentions.events pp) after ≡ again pp file hash name
        next-there =
            let front = found-behind.behind in
            let place : suc at + (after - (at + 1)) ≡ after = omega (arith, front) in
            ap (slice_get (mentions.events pp)) (sym place) ∙ sym (get-drop (suc at) (mentions.events pp) (after - (at + 1))) ∙ found-behind.there
            ∙ sym (behind-first ∙ ap (λ events. slice_get events 0) found-behind.filtered)
