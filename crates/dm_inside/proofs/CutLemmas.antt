-- The bytes of a file are cut round a definition whose tokens stand one behind the other in it.
use Rattle.std.proofs.Common.{◌≡◌, ℕ, zero, suc, ◌+◌, ◌-◌, ◌<◌, ◌≤◌, Bool, true, false, cond, ◌&&◌, ◌⊎◌, inl, inr, List, [], ◌∷◌, ◌++◌, length, take, drop, find, Some, get_or, slice_get, refl, sym, ap, ◌∙◌, subst, arith, true≢false}
use Rattle.std.specs.Prelude.{IsTrue, IsSome, option_map}
use Rattle.std.specs.List.{list_all, position_or_len, after_first}
use Rattle.std.specs.Option.{option_map_or}
use Rattle.std.specs.Result.{result_unwrap_or}
use Rattle.std.proofs.lemmas.List.{length-append, length-take, length-drop, take-append-drop, drop-drop, get_or-take, get_or-drop}
use Rattle.dm_token.specs.declared.expansion.Definition.{Definition}
use Rattle.dm_token.specs.declared.expansion.Origin.{Origin}
use Rattle.dm_token.specs.declared.token.PpToken.{PpToken}
use Rattle.dm_macro.specs.Forms.{Gives, definition_of, replacement_list, is_function_like}
use Rattle.dm_macro.specs.Signs.{is_right_parenthesis}
use Rattle.dm_unit.specs.Lines.{directive, parts_of}
use Rattle.dm_unit.specs.Sources.{reading_of}
use Rattle.dm_unit.proofs.ListLemmas.{position-here, position-later}
use Rattle.dm_edit.specs.Cuts.{is_blank as is_gap, BeginsVisibly, last_token, body_end, Cut, LiesIn}
use Rattle.dm_inside.proofs.RowLemmas.{Row, directive-row}

-- BYTES

-- bytes before a visible one are blanks and then what begins visibly
record Split (bytes : List ℕ) : Type 0 where
  blanks : List ℕ
  body : List ℕ
  is : bytes ≡ blanks ++ body
  all : IsTrue (list_all is_gap blanks)
  begins : BeginsVisibly body

split-at : (bytes : List ℕ) (n : ℕ) → n < length bytes → is_gap (get_or bytes n 0) ≡ false → Split bytes
split-at [] n inside visible = absurd (omega (arith, inside))
split-at (b ∷ bytes) n inside visible = by (is_gap b) refl n inside visible (split-at bytes)
  where
    by : (t : Bool) → is_gap b ≡ t → (n : ℕ) → n < length (b ∷ bytes) → is_gap (get_or (b ∷ bytes) n 0) ≡ false
        → ((n : ℕ) → n < length bytes → is_gap (get_or bytes n 0) ≡ false → Split bytes) → Split (b ∷ bytes)
    by false e n inside visible more = record { blanks = []; body = b ∷ bytes; is = refl; all = refl; begins = e }
    by true e zero inside visible more = absurd (true≢false (sym e ∙ visible))
    by true e (suc n) inside visible more =
        let rest = more n (omega (arith, inside)) visible in
        record { blanks = b ∷ rest.blanks; body = rest.body; is = ap (λ bs. b ∷ bs) rest.is; all = ap (λ t. t && list_all is_gap rest.blanks) e ∙ rest.all; begins = rest.begins }

-- the bytes between two of a list
abbrev between : List ℕ → ℕ → ℕ → List ℕ
between bytes from to = take (to - from) (drop from bytes)

drop-split : (bytes : List ℕ) (from to : ℕ) → from ≤ to → drop from bytes ≡ between bytes from to ++ drop to bytes
drop-split bytes from to h =
    let sum : from + (to - from) ≡ to = omega (arith, h) in
    sym (take-append-drop (to - from) (drop from bytes)) ∙ ap (λ rest. between bytes from to ++ rest) (drop-drop (to - from) from bytes ∙ ap (λ n. drop n bytes) sum)

between-length : (bytes : List ℕ) (from to : ℕ) → from ≤ to → to ≤ length bytes → length (between bytes from to) ≡ to - from
between-length bytes from to h inside = let one = length-take (to - from) (drop from bytes) in let other = length-drop from bytes in omega (arith, one, other, h, inside)

-- TOKENS

module _ (bytes : List ℕ) where
  -- tokens that stand behind one another as far as a byte
  record Ending (from : ℕ) (body : List PpToken) : Type 0 where
    first : ℕ
    after : ℕ
    low : from ≤ first
    mid : first < after
    high : after ≤ length bytes
    visible : is_gap (get_or bytes first 0) ≡ false
    ends : option_map (λ (token : PpToken). token.end) (last_token body) ≡ Some after

  last-ends : (from : ℕ) (t : PpToken) (ts : List PpToken) → Row bytes from (t ∷ ts)
      → (after : ℕ) × (t.end ≤ after) × (after ≤ length bytes) × (option_map (λ (token : PpToken). token.end) (last_token (t ∷ ts)) ≡ Some after)
  last-ends from t [] row = (t.end, omega arith, row.2, refl)
  last-ends from t (u ∷ ts) row =
      let rest = last-ends t.end u ts row.4 in
      let low = row.4.0 in
      let mid = row.4.1 in
      let up = rest.1 in
      let index : suc (length (u ∷ ts) - 1) ≡ length (t ∷ u ∷ ts) - 1 = omega arith in
      (rest.0, omega (arith, low, mid, up), rest.2, ap (λ n. option_map (λ (token : PpToken). token.end) (slice_get (t ∷ u ∷ ts) n)) (sym index) ∙ rest.3)

  row-ends : (from : ℕ) (body : List PpToken) → Row bytes from body → IsSome (option_map (λ (token : PpToken). token.end) (last_token body)) → Ending from body
  row-ends from [] row some = absurd (true≢false (sym some))
  row-ends from (t ∷ ts) row some =
      let last = last-ends from t ts row in
      let mid = row.1 in
      let up = last.1 in
      record { first = t.place.byte; after = last.0; low = row.0; mid = omega (arith, mid, up); high = last.2; visible = row.3; ends = last.3 }

  -- what stands behind the first token that passes a test
  row-behind : (test : PpToken → Bool) (from default : ℕ) (ts : List PpToken) → Row bytes from ts
      → ((end : ℕ) × (from ≤ end) × (option_map_or (λ (token : PpToken). token.end) (find test ts) default ≡ end) × Row bytes end (after_first test ts)) ⊎ (after_first test ts ≡ [])
  row-behind test from default [] row = inr refl
  row-behind test from default (t ∷ ts) row = by (test t) refl (row-behind test t.end default ts row.4)
    where
      shift : position_or_len test (t ∷ ts) ≡ suc (position_or_len test ts) → position_or_len test (t ∷ ts) + 1 ≡ suc (position_or_len test ts + 1)
      shift later = omega (arith, later)

      by : (b : Bool) → test t ≡ b
          → ((end : ℕ) × (t.end ≤ end) × (option_map_or (λ (token : PpToken). token.end) (find test ts) default ≡ end) × Row bytes end (after_first test ts)) ⊎ (after_first test ts ≡ [])
          → ((end : ℕ) × (from ≤ end) × (option_map_or (λ (token : PpToken). token.end) (find test (t ∷ ts)) default ≡ end) × Row bytes end (after_first test (t ∷ ts))) ⊎ (after_first test (t ∷ ts) ≡ [])
      by true e rest =
          let low = row.0 in
          let mid = row.1 in
          inl (
            t.end,
            omega (arith, low, mid),
            ap (λ b. option_map_or (λ (token : PpToken). token.end) (cond b (Some t) (find test ts)) default) e,
            subst (λ n. Row bytes t.end (drop (n + 1) (t ∷ ts))) (sym (position-here test t ts e)) row.4,
          )
      by false e (inl rest) =
          let low = row.0 in
          let mid = row.1 in
          let up = rest.1 in
          inl (
            rest.0,
            omega (arith, low, mid, up),
            ap (λ b. option_map_or (λ (token : PpToken). token.end) (cond b (Some t) (find test ts)) default) e ∙ rest.2,
            subst (λ n. Row bytes rest.0 (drop n (t ∷ ts))) (sym (shift (position-later test t ts e))) rest.3,
          )
      by false e (inr none) = inr (ap (λ n. drop n (t ∷ ts)) (shift (position-later test t ts e)) ∙ none)

  -- THE CUT

  -- the head ends at a byte, and the body stands behind it
  cut-round : (definition : Definition) (hash head_end : ℕ) → hash ≤ head_end → definition.hash ≡ hash → definition.head_end ≡ head_end → Ending head_end definition.body → LiesIn bytes definition
  cut-round definition hash head_end order hash_is end_is ending =
      let low = ending.low in
      let mid = ending.mid in
      let high = ending.high in
      let sum : head_end + (ending.first - head_end) ≡ ending.first = omega (arith, low) in
      let long = between-length bytes head_end ending.after (omega (arith, low, mid)) high in
      let seen : is_gap (get_or (between bytes head_end ending.after) (ending.first - head_end) 0) ≡ false =
      ap is_gap (get_or-take (ending.after - head_end) (drop head_end bytes) (ending.first - head_end) 0 (omega (arith, low, mid)) ∙ get_or-drop head_end bytes (ending.first - head_end) 0 ∙ ap (λ n. get_or bytes n 0) sum) ∙ ending.visible in
      let split = split-at (between bytes head_end ending.after) (ending.first - head_end) (omega (arith, long, low, mid)) seen in
      let cut : Cut = record { front = take hash bytes; directive = between bytes hash head_end; blanks = split.blanks; body = split.body; rest = drop ending.after bytes } in
      let front : length (take hash bytes) ≡ hash = let one = length-take hash bytes in omega (arith, one, order, low, mid, high) in
      let head : length (between bytes hash head_end) ≡ head_end - hash = between-length bytes hash head_end order (omega (arith, low, mid, high)) in
      let whole : length split.blanks + length split.body ≡ ending.after - head_end = sym (length-append split.blanks split.body) ∙ ap length (sym split.is) ∙ long in (
        cut,
        record {
          whole = sym (take-append-drop hash bytes) ∙ ap (λ rest. take hash bytes ++ rest)
              (drop-split bytes hash head_end order ∙ ap (λ rest. between bytes hash head_end ++ rest)
              (drop-split bytes head_end ending.after (omega (arith, low, mid)) ∙ ap (λ part. part ++ drop ending.after bytes) split.is ∙ append-assoc split.blanks split.body (drop ending.after bytes)));
          hash = front ∙ sym hash_is;
          head_end = length-append (take hash bytes) (between bytes hash head_end) ∙ (let total : length (take hash bytes) + length (between bytes hash head_end) ≡ head_end = omega (arith, front, head, order) in total) ∙ sym end_is;
          all_blank = split.all;
          begins = split.begins;
          ends = ending.ends ∙ ap Some (sym (through split.blanks split.body front head whole low mid));
        },
      )
    where
      append-assoc : (xs ys zs : List ℕ) → (xs ++ ys) ++ zs ≡ xs ++ (ys ++ zs)
      append-assoc [] ys zs = refl
      append-assoc (x ∷ xs) ys zs = ap (λ rest. x ∷ rest) (append-assoc xs ys zs)

      through : (blanks body : List ℕ) → length (take hash bytes) ≡ hash → length (between bytes hash head_end) ≡ head_end - hash → length blanks + length body ≡ ending.after - head_end → head_end ≤ ending.first → ending.first < ending.after
          → length (take hash bytes ++ (between bytes hash head_end ++ (blanks ++ body))) ≡ ending.after
      through blanks body front head whole low mid =
          let one = length-append (take hash bytes) (between bytes hash head_end ++ (blanks ++ body)) in
          let two = length-append (between bytes hash head_end) (blanks ++ body) in
          let three = length-append blanks body in
          omega (arith, one, two, three, front, head, whole, order, low, mid)

  -- A DEFINITION

  -- that of a `#`, a word, a name and what stands behind it
  line-lies : (hash word name : PpToken) (behind : List PpToken) (origin : Origin) (plain : Bool) → Row bytes 0 (hash ∷ word ∷ name ∷ behind) → IsSome (body_end (definition_of hash name behind origin plain))
      → LiesIn bytes (definition_of hash name behind origin plain)
  line-lies hash word name behind origin plain row some = by (is_function_like behind) refl
    where
      order : hash.place.byte ≤ name.end
      order = let a = row.1 in let b = row.4.0 in let c = row.4.1 in let d = row.4.4.0 in let e = row.4.4.1 in omega (arith, a, b, c, d, e)

      none-some : (body : List PpToken) → body ≡ [] → IsSome (option_map (λ (token : PpToken). token.end) (last_token body)) → ⊥
      none-some body e s = true≢false (sym (subst (λ tokens. IsSome (option_map (λ (token : PpToken). token.end) (last_token tokens))) e s))

      with_list : is_function_like behind ≡ true
          → ((end : ℕ) × (name.end ≤ end) × (option_map_or (λ (token : PpToken). token.end) (find is_right_parenthesis behind) name.end ≡ end) × Row bytes end (after_first is_right_parenthesis behind)) ⊎ (after_first is_right_parenthesis behind ≡ [])
          → LiesIn bytes (definition_of hash name behind origin plain)
      with_list e (inr none) = absurd (none-some (replacement_list behind) (ap (λ b. cond b (after_first is_right_parenthesis behind) behind) e ∙ none) some)
      with_list e (inl x) =
          let up = x.1 in
          let body_is : replacement_list behind ≡ after_first is_right_parenthesis behind = ap (λ b. cond b (after_first is_right_parenthesis behind) behind) e in
          cut-round (definition_of hash name behind origin plain) hash.place.byte x.0 (omega (arith, order, up)) refl
          (ap (λ b. cond b (option_map_or (λ (token : PpToken). token.end) (find is_right_parenthesis behind) name.end) name.end) e ∙ x.2)
          (subst (Ending x.0) (sym body_is) (row-ends x.0 (after_first is_right_parenthesis behind) x.3 (subst (λ tokens. IsSome (option_map (λ (token : PpToken). token.end) (last_token tokens))) body_is some)))

      by : (b : Bool) → is_function_like behind ≡ b → LiesIn bytes (definition_of hash name behind origin plain)
      by true e = with_list e (row-behind is_right_parenthesis name.end name.end behind row.4.4.4)
      by false e =
          let body_is : replacement_list behind ≡ behind = ap (λ b. cond b (after_first is_right_parenthesis behind) behind) e in
          cut-round (definition_of hash name behind origin plain) hash.place.byte name.end order refl
          (ap (λ b. cond b (option_map_or (λ (token : PpToken). token.end) (find is_right_parenthesis behind) name.end) name.end) e)
          (subst (Ending name.end) (sym body_is) (row-ends name.end behind row.4.4.4 (subst (λ tokens. IsSome (option_map (λ (token : PpToken). token.end) (last_token tokens))) body_is some)))

  given-lies : (line : List PpToken) (origin : Origin) (plain : Bool) (definition : Definition) → Row bytes 0 line → Gives line origin plain definition → IsSome (body_end definition) → LiesIn bytes definition
  given-lies [] origin plain definition row gives some = absurd gives
  given-lies (hash ∷ []) origin plain definition row gives some = absurd gives
  given-lies (hash ∷ (word ∷ [])) origin plain definition row gives some = absurd gives
  given-lies (hash ∷ (word ∷ (name ∷ behind))) origin plain definition row gives some =
      subst (LiesIn bytes) (sym gives.1) (line-lies hash word name behind origin plain row (subst (λ one. IsSome (body_end one)) gives.1 some))

pub directive-lies : (file : ℕ) (bytes : List ℕ) (k : ℕ) (start : PpToken) (behind : List PpToken) (origin : Origin) (plain : Bool) (definition : Definition)
    → slice_get (parts_of (result_unwrap_or (reading_of file bytes) [])) k ≡ Some (directive start behind) → Gives (start ∷ behind) origin plain definition → IsSome (body_end definition) → LiesIn bytes definition
directive-lies file bytes k start behind origin plain definition is gives some = given-lies bytes (start ∷ behind) origin plain definition (directive-row bytes file k start behind is) gives some
