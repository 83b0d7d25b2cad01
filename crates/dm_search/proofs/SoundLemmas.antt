-- The fields of a loader still fit each other once a name or a content is added.
use Rattle.std.proofs.Common.{◌≡◌, ◌≢◌, ℕ, zero, suc, ◌+◌, ◌-◌, ◌<◌, ◌≤◌, true, false, cond, inl, inr, List, [], ◌∷◌, ◌++◌, length, drop, get_or, set, count_by, map, take, slice_get, append-nil, Option, None, Some, is_some, refl, sym, ap, ◌∙◌, subst, append_assoc, arith, if◌then◌else◌, bytes_eq, true≢false}
use Rattle.std.proofs.lemmas.Bool.{cases_eq, cases_lt}
use Rattle.std.proofs.lemmas.Grind.{common_steps}
use Rattle.std.proofs.lemmas.List.{get_or-set_same, get_or-set_other, length-set, length-append, length-map, drop-map, get_or-map, take_more, get_or_append_left, map-append, length-take-le}
use Rattle.std.proofs.lemmas.Option.{get_or_from_slice_get}
use Rattle.std.proofs.Math.Seq.{get_or-append_seam}
use Rattle.std.proofs.Math.ListN.{drop_of_length-le, get_or-eq_default}
use Rattle.std.proofs.Math.ListN.{get_or-map as map_at}
use Rattle.std.proofs.lemmas.List.Sums.{sum_by-append}
use Rattle.std.specs.List.{list_any}
use Rattle.dm_search.specs.declared.content.Content.{Content}
use Rattle.dm_search.specs.Headers.{header_names, header_texts}
use Rattle.dm_search.specs.Readable.{IsReadable}
use Rattle.dm_search.specs.Sound.{bytes_of, bytes_in, AreSound, AreContents, IsContent}

-- what no index finds in a list, it doesn't find with nothing behind it
get_or-push_none : {A : Type 0} (xs : List (Option A)) (i : ℕ) → get_or (xs ++ None ∷ []) i None ≡ get_or xs i None
get_or-push_none [] zero = refl
get_or-push_none [] (suc i) = refl
get_or-push_none (x ∷ xs) zero = refl
get_or-push_none (x ∷ xs) (suc i) = get_or-push_none xs i

-- nothing behind a list doesn't count
count-end_none : {A : Type 0} (xs : List (Option A)) → count_by is_some (xs ++ None ∷ []) ≡ count_by is_some xs
count-end_none xs = let s = sum_by-append (λ o. cond (is_some o) 1 0) xs (None ∷ []) in omega (arith, s)

count-push_none : {A : Type 0} (n : ℕ) (xs : List (Option A)) → count_by is_some (drop n (xs ++ None ∷ [])) ≡ count_by is_some (drop n xs)
count-push_none zero xs = count-end_none xs
count-push_none (suc n) [] = grind (arith, common_steps)
count-push_none (suc n) (x ∷ xs) = count-push_none n xs

-- the fields fit with one more name
sound-push : (names : List (List ℕ)) (contents : List (Option Content)) (found : ℕ) (name : List ℕ) → AreSound names contents found → AreSound (names ++ name ∷ []) (contents ++ None ∷ []) found
sound-push names contents found name sound = record {
  numbered = length-append contents (None ∷ []) ∙ ap (λ n. n + 1) sound.numbered ∙ sym (length-append names (name ∷ []));
  counted = sound.counted ∙ sym (count-push_none 6 contents);
  read = λ file content h. sound.read file content (sym (get_or-push_none contents file) ∙ h);
  headers = ((sound.headers.0.0 ++ name ∷ [], ap (λ ns. ns ++ name ∷ []) sound.headers.0.1 ∙ append_assoc header_names sound.headers.0.0 (name ∷ [])), λ file h. ap is_some (get_or-push_none contents file) ∙ sound.headers.1 file h);
}

pub sound-number : (names more : List (List ℕ)) (contents with : List (Option Content)) (found : ℕ) (name : List ℕ)
    → list_any (bytes_eq name) names ≡ false → more ≡ (if list_any (bytes_eq name) names then names else names ++ name ∷ []) → with ≡ contents ++ None ∷ []
    → AreSound names contents found → AreSound more with found
sound-number names more contents with found name new e f sound =
    let m : more ≡ names ++ name ∷ [] = e ∙ ap (λ b. cond b names (names ++ name ∷ [])) new in
    subst (λ ns. AreSound ns with found) (sym m) (subst (λ w. AreSound (names ++ name ∷ []) w found) (sym f) (sound-push names contents found name sound))

same-content : (file at : ℕ) (content other : Content) → at ≡ file → content ≡ other → IsContent file content → IsContent at other
same-content file at content other e f is = subst (λ k. IsContent k other) (sym e) (subst (IsContent file) f is)

injected : {A : Type 0} (x y : A) → Some x ≡ Some y → x ≡ y
injected x y e = cc

-- the fields fit with a content
pub sound-set : (names : List (List ℕ)) (contents : List (Option Content)) (found now : ℕ) (file : ℕ) (content : Content)
    → file < length contents → IsContent file content → now ≡ count_by is_some (drop 6 (set contents file (Some content)))
    → AreSound names contents found → AreSound names (set contents file (Some content)) now
sound-set names contents found now file content inside is counted sound = record {
  numbered = length-set contents file (Some content) ∙ sound.numbered;
  counted = counted;
  read = λ at other h. elim (cases_eq at file) [
    | inl e ↦ same-content file at content other e (injected content other (sym (get_or-set_same contents file (Some content) None inside) ∙ ap (λ k. get_or (set contents file (Some content)) k None) (sym e) ∙ h)) is
    | inr ne ↦ sound.read at other (sym (get_or-set_other contents file at (Some content) None ne) ∙ h)
  ];
  headers = (
    sound.headers.0,
    λ at h. elim (cases_eq at file) [
      | inl e ↦ ap (λ k. is_some (get_or (set contents file (Some content)) k None)) e ∙ ap is_some (get_or-set_same contents file (Some content) None inside)
      | inr ne ↦ ap is_some (get_or-set_other contents file at (Some content) None ne) ∙ sound.headers.1 at h
    ],
  );
}

-- where something is held, there is a place for it
pub held-inside : {A : Type 0} (xs : List (Option A)) (i : ℕ) → is_some (get_or xs i None) ≡ true → i < length xs
held-inside [] i h = absurd (true≢false (sym h))
held-inside (x ∷ xs) zero h = omega arith
held-inside (x ∷ xs) (suc i) h = let rest = held-inside xs i h in omega (arith, rest)

-- what is held can be read
pub readable-held : (contents : List (Option Content)) (file : ℕ) (bytes : List ℕ) → AreContents contents → get_or (bytes_of contents) file None ≡ Some bytes → IsReadable file bytes
readable-held contents file bytes are held = by (get_or contents file None) refl (sym (map_at bytes_in contents file None) ∙ held)
  where
    by : (content : Option Content) → get_or contents file None ≡ content → bytes_in content ≡ Some bytes → IsReadable file bytes
    by None at is = absurd (cc is)
    by (Some content) at is =
        let read = are file content at in
        subst (IsReadable file) (injected content.bytes bytes is) (read.0, content.tokens, read.1)

-- the contents are counted as their bytes are
count-map : (contents : List (Option Content)) → count_by is_some (bytes_of contents) ≡ count_by is_some contents
count-map [] = refl
count-map (None ∷ contents) =
    let a = sum_by-append (λ o. cond (is_some o) 1 0) (None ∷ []) (bytes_of contents) in
    let b = sum_by-append (λ o. cond (is_some o) 1 0) (None ∷ []) contents in
    let rest = count-map contents in omega (arith, a, b, rest)
count-map (Some content ∷ contents) =
    let a = sum_by-append (λ o. cond (is_some o) 1 0) (Some content.bytes ∷ []) (bytes_of contents) in
    let b = sum_by-append (λ o. cond (is_some o) 1 0) (Some content ∷ []) contents in
    let rest = count-map contents in omega (arith, a, b, rest)

pub count-bytes_of : (n : ℕ) (contents : List (Option Content)) → count_by is_some (drop n (bytes_of contents)) ≡ count_by is_some (drop n contents)
count-bytes_of n contents = ap (count_by is_some) (drop-map bytes_in n contents) ∙ count-map (drop n contents)

is_some-bytes_in : (content : Option Content) → is_some content ≡ is_some (bytes_in content)
is_some-bytes_in None = refl
is_some-bytes_in (Some content) = refl

-- the contents of one more number
pub contents-push : (contents : List (Option Content)) (number : ℕ) (content : Content) → length contents ≡ number → IsContent number content → AreContents contents → AreContents (contents ++ Some content ∷ [])
contents-push contents number content n is are file other h = elim (cases_lt file (length contents)) [
  | inl lt ↦ are file other (sym (get_or_append_left contents (Some content ∷ []) None file lt) ∙ h)
  | inr ge ↦ elim (cases_eq file (length contents)) [
    | inl e ↦ same-content number file content other (e ∙ n) (injected content other (sym (get_or-append_seam contents (Some content) [] None) ∙ ap (λ k. get_or (contents ++ Some content ∷ []) k None) (sym e) ∙ h)) is
    | inr ne ↦ past (get_or-eq_default (contents ++ Some content ∷ []) None (let more = length-append contents (Some content ∷ []) in omega (arith, more, ne))) h
  ]
]
  where
    past : {x : Option Content} → x ≡ None → x ≡ Some other → IsContent file other
    past none some = absurd (cc (none, some))

-- the texts of one more header
pub texts-push : (contents : List (Option Content)) (content : Content) (n : ℕ) → n < 6 → bytes_of contents ≡ map Some (take n header_texts) → slice_get header_texts n ≡ Some content.bytes
    → bytes_of (contents ++ Some content ∷ []) ≡ map Some (take (n + 1) header_texts)
texts-push contents content n inside so_far is =
    let more : take (n + 1) header_texts ≡ take n header_texts ++ content.bytes ∷ [] = take_more header_texts n content.bytes inside ∙ ap (λ t. take n header_texts ++ t ∷ []) (get_or_from_slice_get header_texts n content.bytes content.bytes is) in
    map-append bytes_in contents (Some content ∷ []) ∙ ap (λ front. front ++ Some content.bytes ∷ []) so_far ∙ sym (map-append Some (take n header_texts) (content.bytes ∷ [])) ∙ ap (map Some) (sym more)

-- there are as many contents as headers passed
pub texts-length : (contents : List (Option Content)) (n : ℕ) → n ≤ 6 → bytes_of contents ≡ map Some (take n header_texts) → length contents ≡ n
texts-length contents n le held = sym (length-map contents bytes_in) ∙ ap length held ∙ length-map (take n header_texts) Some ∙ length-take-le n header_texts le

-- the fields of a new loader
pub sound-fresh : (names : List (List ℕ)) (contents : List (Option Content)) → names ≡ header_names → bytes_of contents ≡ map Some header_texts → AreContents contents → AreSound names contents 0
sound-fresh names contents named held read =
    let six : ◌≡◌ {A = ℕ} (length contents) 6 = sym (length-map contents bytes_in) ∙ ap length held in
    let le : length contents ≤ 6 = omega (arith, six) in
    record {
      numbered = six ∙ sym (ap length named);
      counted = sym (ap (count_by is_some) (drop_of_length-le contents le));
      read = read;
      headers = (
        ([], named ∙ sym (append-nil header_names)),
        λ file h.
            is_some-bytes_in (get_or contents file None) ∙ ap is_some (sym (map_at bytes_in contents file None) ∙ ap (λ hs. get_or hs file None) held ∙ get_or-map Some header_texts file [] None h),
      );
    }
