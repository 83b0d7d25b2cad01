-- A file makes one definition at a `#`, and the names of its parameters differ.
--     one_made, names_differ      so it is
use Rattle.std.specs.Prelude.{◌≡◌, ℕ, zero, suc, ◌+◌, ◌≤◌, Bool, true, false, List, [], ◌∷◌, Some, None, MatchBool, IsTrue, bytes_eq, slice_get, if◌then◌else◌}
use Rattle.std.specs.List.{IsDistinct}
use Rattle.std.proofs.Common.{ap, sym, ◌∙◌, subst, arith}
use Rattle.dm_token.specs.declared.expansion.Definition.{Definition}
use Rattle.dm_token.specs.declared.expansion.Origin.{Origin}
use Rattle.dm_token.specs.declared.token.PpToken.{PpToken}
use Rattle.dm_macro.specs.Bodies.{named_parameters}
use Rattle.dm_macro.specs.Forms.{Gives, HasParameterList, is_function_like, is_set_off, listed, names_in}
use Rattle.dm_unit.specs.Definitions.{is_plain_head, origin_of}
use Rattle.dm_unit.specs.Lines.{Part, directive, text}
use Rattle.dm_defined.specs.Made.{IsMadeIn, parts_in}
use Rattle.dm_defined.proofs.OrderLemmas.{PartsAscend, parts_ascend}

some_same : {A : Type 0} (x y : A) → Some x ≡ Some y → x ≡ y
some_same x y e = cc

no_item : {A : Type 0} (x : A) → None ≡ Some x → ⊥
no_item x e = cc

-- a directive is not before where the parts begin
not_before : (from : ℕ) (parts : List Part) (k : ℕ) (start : PpToken) (behind : List PpToken) → PartsAscend from parts → slice_get parts k ≡ Some (directive start behind) → from ≤ start.place.byte
not_before from [] k start behind order is = absurd (no_item (directive start behind) is)
not_before from (directive first others ∷ parts) zero start behind order is =
    let same : first ≡ start = starts_same (some_same (directive first others) (directive start behind) is) in let begins = order.0 in subst (λ (t : PpToken). from ≤ t.place.byte) same begins
  where
    starts_same : directive first others ≡ directive start behind → first ≡ start
    starts_same e = cc
not_before from (directive first others ∷ parts) (suc k) start behind order is =
    let later = not_before (first.place.byte + 1) parts k start behind order.1 is in let begins = order.0 in omega (arith, later, begins)
not_before from (text tokens ∷ parts) zero start behind order is = absurd (no_directive (some_same (text tokens) (directive start behind) is))
  where
    no_directive : text tokens ≡ directive start behind → ⊥
    no_directive e = cc
not_before from (text tokens ∷ parts) (suc k) start behind order is = not_before from parts k start behind order is

-- two at the same byte are one
one_directive : (from : ℕ) (parts : List Part) (k n : ℕ) (start other : PpToken) (behind others : List PpToken) → PartsAscend from parts → slice_get parts k ≡ Some (directive start behind)
    → slice_get parts n ≡ Some (directive other others) → start.place.byte ≡ other.place.byte → directive start behind ≡ directive other others
one_directive from [] k n start other behind others order is it same = absurd (no_item (directive start behind) is)
one_directive from (part ∷ parts) zero zero start other behind others order is it same = sym (some_same part (directive start behind) is) ∙ some_same part (directive other others) it
one_directive from (part ∷ parts) zero (suc n) start other behind others order is it same =
    let here = subst (λ (p : Part). PartsAscend from (p ∷ parts)) (some_same part (directive start behind) is) order in
    let later = not_before (start.place.byte + 1) parts n other others here.1 it in absurd (omega (arith, later, same))
one_directive from (part ∷ parts) (suc k) zero start other behind others order is it same =
    let here = subst (λ (p : Part). PartsAscend from (p ∷ parts)) (some_same part (directive other others) it) order in
    let later = not_before (other.place.byte + 1) parts k start behind here.1 is in absurd (omega (arith, later, same))
one_directive from (directive first more ∷ parts) (suc k) (suc n) start other behind others order is it same = one_directive (first.place.byte + 1) parts k n start other behind others order.1 is it same
one_directive from (text tokens ∷ parts) (suc k) (suc n) start other behind others order is it same = one_directive from parts k n start other behind others order is it same

-- a line gives one definition
one_given : (line : List PpToken) (origin : Origin) (plain : Bool) (one other : Definition) → Gives line origin plain one → Gives line origin plain other → one ≡ other
one_given [] origin plain one other h k = absurd h
one_given (hash ∷ []) origin plain one other h k = absurd h
one_given (hash ∷ (word ∷ [])) origin plain one other h k = absurd h
one_given (hash ∷ (word ∷ (name ∷ behind))) origin plain one other h k = h.1 ∙ sym k.1

hash_is : (start : PpToken) (behind : List PpToken) (origin : Origin) (plain : Bool) (one : Definition) → Gives (start ∷ behind) origin plain one → one.hash ≡ start.place.byte
hash_is start [] origin plain one h = absurd h
hash_is start (word ∷ []) origin plain one h = absurd h
hash_is start (word ∷ (name ∷ behind)) origin plain one h = ap (λ (d : Definition). d.hash) h.1

pub one_made : (file : ℕ) (bytes : List ℕ) (one other : Definition) → IsMadeIn file bytes one → IsMadeIn file bytes other → one.hash ≡ other.hash → one ≡ other
one_made file bytes one other h k same =
    let byte : h.0.place.byte ≡ k.0.place.byte =
    sym (hash_is h.0 h.1 (origin_of file) (is_plain_head bytes h.0 (h.0 ∷ h.1)) one h.3) ∙ same ∙ hash_is k.0 k.1 (origin_of file) (is_plain_head bytes k.0 (k.0 ∷ k.1)) other k.3 in
    let it = one_directive 0 (parts_in file bytes) h.2.0 k.2.0 h.0 k.0 h.1 k.1 (parts_ascend file bytes) h.2.1 k.2.1 byte in
    let start : h.0 ≡ k.0 = starts h.0 k.0 h.1 k.1 it in
    let behind : h.1 ≡ k.1 = behinds h.0 k.0 h.1 k.1 it in
    one_given (k.0 ∷ k.1) (origin_of file) (is_plain_head bytes k.0 (k.0 ∷ k.1)) one other
    (subst (λ (ts : List PpToken). Gives (k.0 ∷ ts) (origin_of file) (is_plain_head bytes k.0 (k.0 ∷ ts)) one) behind
    (subst (λ (t : PpToken). Gives (t ∷ h.1) (origin_of file) (is_plain_head bytes t (t ∷ h.1)) one) start h.3)) k.3
  where
    starts : (s t : PpToken) (ss ts : List PpToken) → directive s ss ≡ directive t ts → s ≡ t
    starts s t ss ts e = cc

    behinds : (s t : PpToken) (ss ts : List PpToken) → directive s ss ≡ directive t ts → ss ≡ ts
    behinds s t ss ts e = cc

-- ---- parameters

names_of : (b : Bool) (behind : List PpToken) → MatchBool b (HasParameterList behind) (IsTrue (is_set_off behind)) → IsDistinct bytes_eq (named_parameters (if b then Some (names_in (listed behind)) else None))
unfolding named_parameters IsDistinct
names_of true behind h = h.2
names_of false behind h = tt

pub names_differ : (file : ℕ) (bytes : List ℕ) (definition : Definition) → IsMadeIn file bytes definition → IsDistinct bytes_eq (named_parameters definition.parameters)
names_differ file bytes definition made = by_line made.0 made.1 (origin_of file) (is_plain_head bytes made.0 (made.0 ∷ made.1)) made.3
  where
    by_line : (start : PpToken) (behind : List PpToken) (origin : Origin) (plain : Bool) → Gives (start ∷ behind) origin plain definition → IsDistinct bytes_eq (named_parameters definition.parameters)
    by_line start [] origin plain gives = absurd gives
    by_line start (word ∷ []) origin plain gives = absurd gives
    by_line start (word ∷ (name ∷ behind)) origin plain gives =
        subst (λ (d : Definition). IsDistinct bytes_eq (named_parameters d.parameters)) (sym gives.1) (names_of (is_function_like behind) behind gives.0.1)
