-- The progress of every expansion follows on the one before it, its stops are refusals 9 and 10 and limit 3, and the
-- depth that expansions may have is never too small.
use Rattle.std.proofs.Common.{◌≡◌, ℕ, zero, suc, ◌+◌, ◌-◌, ◌<◌, ◌≤◌, Bool, true, false, cond, List, [], ◌∷◌, ◌++◌, length, map, Some, None, refl, ap, sym, ◌∙◌, arith, inl, inr, Result, Ok, Err, nat_le}
use Rattle.std.proofs.lemmas.Bool.{leb-true}
use Rattle.std.specs.List.{list_any}
use Rattle.dm_token.specs.declared.stop.Stop.{Stop}
use Rattle.dm_token.specs.declared.place.Place.{Place}
use Rattle.dm_token.specs.declared.expansion.Expansion.{Expansion}
use Rattle.dm_lex.specs.Classes.{class_of}
use Rattle.dm_expand.specs.HideSets.{HiddenNumbers}
use Rattle.dm_expand.specs.Items.{Item}
use Rattle.dm_expand.specs.Steps.{Progress, Output, ◌>>=◌, greatest_work, too_much, spend, begin, take_argument, taken_by}
use Rattle.dm_macro.specs.Bodies.{Part, plain, hash, beside, whole, paste, parts_of}
use Rattle.dm_expand.specs.Pastes.{Site, Piece, token, placemarker, operator, joined, joined_with, joined_as, joined_tokens, no_token, piece_before, pasted_behind, pasted, tokens_of}
use Rattle.dm_expand.specs.Substitution.{Expander, filled, filled_all, is_operator, substituted, argument_for}
use Rattle.dm_expand.specs.Expansion.{Macros, Invocation, put, replace, refuse, head_of, token_before, replaced, by_case, no_arguments, scanned, expanded_within, expanded}
use Rattle.dm_expand.specs.Laws.{AreNumbered, Follows, Each}

-- ONE STEP AFTER ANOTHER

pub each_bind : {A B : Type 0} (P : A → Type 0) (Q : B → Type 0) (r : Result A Stop) (next : A → Result B Stop) → Each P r → ((a : A) → P a → Each Q (next a)) → Each Q (r >>= next)
each_bind P Q (Ok a) next has then = then a has
each_bind P Q (Err stop) next has then = has

pub bind_agree : {A B : Type 0} (P : A → Type 0) (r s : Result A Stop) (next other : A → Result B Stop) → r ≡ s → Each P r → ((a : A) → P a → next a ≡ other a) → (r >>= next) ≡ (s >>= other)
bind_agree P (Ok a) s next other same has then = then a has ∙ ap (λ x. x >>= other) same
bind_agree P (Err stop) s next other same has then = ap (λ x. x >>= other) same

pub each_more : {A : Type 0} (P Q : A → Type 0) (r : Result A Stop) → ((a : A) → P a → Q a) → Each P r → Each Q r
each_more P Q (Ok a) more has = more a has
each_more P Q (Err stop) more has = has

-- PROGRESS

pub follows_itself : (p : Progress) → p.spent ≤ greatest_work → Follows p p
follows_itself p within = record { rises = omega arith; within = within; counted = omega arith; numbered = λ first numbered. numbered }

pub follows_on : (p q r : Progress) → Follows p q → Follows q r → Follows p r
follows_on p q r first second =
    record {
      rises = omega (arith, first.rises, second.rises);
      within = second.within;
      counted = omega (arith, first.counted, second.counted);
      numbered = λ from numbered. second.numbered from (first.numbered from numbered);
    }

pub taken-numbered : (argument : List Item) (first : ℕ) (made : List Expansion) (next : ℕ) → AreNumbered first made next → AreNumbered first (map (taken_by argument) made) next
unfolding taken_by
taken-numbered argument first [] next numbered = numbered
taken-numbered argument first (one ∷ made) next numbered = (numbered.0, taken-numbered argument (suc first) made next numbered.1)

pub push-numbered : (one : Expansion) (first : ℕ) (made : List Expansion) → AreNumbered first made one.instance → AreNumbered first (made ++ one ∷ []) (suc one.instance)
push-numbered one first [] numbered = (sym numbered, ap suc numbered)
push-numbered one first (other ∷ made) numbered = (numbered.0, push-numbered one (suc first) made numbered.1)

pub take_argument-follows : (argument : List Item) (p : Progress) → p.spent ≤ greatest_work → Follows p (take_argument argument p)
unfolding take_argument
take_argument-follows argument p within =
    record {
      rises = omega arith;
      within = within;
      counted = omega arith;
      numbered = λ first numbered. taken-numbered argument first p.expansions p.instance numbered;
    }

-- the work is counted, and all else stays
abbrev pub Counted : Progress → ℕ → Progress → Type 0
Counted p work q = (q.spent ≡ p.spent + work) × (q.spent ≤ greatest_work) × (q.instance ≡ p.instance) × (q.expansions ≡ p.expansions)

pub spend-counted : (place : Place) (work : ℕ) (p : Progress) → Each (Counted p work) (spend place work p)
unfolding spend too_much
spend-counted place work p =
    elim (nat_le (p.spent + work) greatest_work) as (λ b. nat_le (p.spent + work) greatest_work ≡ b → Each (Counted p work) (cond b (Ok (record p { spent = p.spent + work })) (Err (too_much place)))) [
      | true ↦ λ is. (refl, leb-true _ _ is, refl, refl)
      | false ↦ λ is. refl
    ] refl

counted-follows : (p : Progress) (work : ℕ) (q : Progress) → Counted p work q → Follows p q
counted-follows p work q counted =
    record {
      rises = omega (arith, counted.0);
      within = counted.1;
      counted = omega (arith, counted.0, counted.2);
      numbered = λ first numbered. rw (counted.2, counted.3) numbered;
    }

pub spend-follows : (place : Place) (work : ℕ) (p : Progress) → Each (Follows p) (spend place work p)
spend-follows place work p = each_more _ _ (spend place work p) (counted-follows p work) (spend-counted place work p)

-- an expansion counts as one
pub begin-follows : (definition : ℕ) (name : Item) (foreign : Bool) (p : Progress) → Each (λ q. Follows p q × (p.spent < q.spent)) (begin definition name foreign p)
unfolding begin
begin-follows definition name foreign p =
    each_bind (Counted p 1) _ (spend name.pp.place 1 p) _ (spend-counted name.pp.place 1 p)
    (λ q counted. (
      record {
        rises = omega (arith, counted.0);
        within = counted.1;
        counted = omega (arith, counted.0, counted.2);
        numbered = λ first numbered. push-numbered _ first q.expansions (rw (counted.2, counted.3) numbered);
      },
      omega (arith, counted.0),
    ))

-- work that is counted or not
pub counts-follows : (counts : Bool) (place : Place) (work : ℕ) (p : Progress) → p.spent ≤ greatest_work → Each (Follows p) (cond counts (spend place work p) (Ok p))
counts-follows true place work p within = spend-follows place work p
counts-follows false place work p within = follows_itself p within

-- SUBSTITUTION

-- from so much work on, an expander's progress follows on the one before it
abbrev pub IsSafe : ℕ → Expander → Type 0
IsSafe least expander = (tokens : List Item) (p : Progress) → least ≤ p.spent → p.spent ≤ greatest_work → Each (λ output. Follows p output.progress) (expander tokens p)

-- from so much work on, two expanders agree
abbrev pub Agree : ℕ → Expander → Expander → Type 0
Agree least one other = (tokens : List Item) (p : Progress) → least ≤ p.spent → p.spent ≤ greatest_work → one tokens p ≡ other tokens p

module _ (least : ℕ) (expander : Expander) (safe : IsSafe least expander) where
  pub filled-follows : (site : Site) (part : Part) (p : Progress) → least ≤ p.spent → p.spent ≤ greatest_work → Each (λ given. Follows p given.progress) (filled expander site part p)
  unfolding filled
  filled-follows site (plain pp) p above within = follows_itself p within
  filled-follows site (hash pp parameter) p above within = take_argument-follows (argument_for site parameter) p within
  filled-follows site (beside pp parameter occurrence) p above within = take_argument-follows (argument_for site parameter) p within
  filled-follows site (whole pp parameter occurrence) p above within =
      each_bind (λ output. Follows p output.progress) _ (expander (argument_for site parameter) p) _ (safe (argument_for site parameter) p above within) (λ output follows. follows)
  filled-follows site (paste pp) p above within = follows_itself p within

  pub filled_all-follows : (site : Site) (counts : Bool) (parts : List Part) (p : Progress) → least ≤ p.spent → p.spent ≤ greatest_work → Each (λ given. Follows p given.progress) (filled_all expander site counts parts p)
  unfolding filled_all
  filled_all-follows site counts [] p above within = follows_itself p within
  filled_all-follows site counts (part ∷ parts) p above within =
      each_bind (λ given. Follows p given.progress) _ (filled expander site part p) _ (filled-follows site part p above within)
      (λ given first.
      each_bind (Follows given.progress) _ (cond counts (spend site.name.pp.place (length given.pieces) given.progress) (Ok given.progress)) _
      (counts-follows counts site.name.pp.place (length given.pieces) given.progress first.within)
      (λ q second.
      each_bind (λ others. Follows q others.progress) _ (filled_all expander site counts parts q) _
      (filled_all-follows site counts parts q (omega (arith, first.rises, second.rises)) second.within)
      (λ others third. follows_on p given.progress others.progress first (follows_on given.progress q others.progress second third))))

joined_tokens-stops : (site : Site) (left right : Item) → Each (λ _. Unit {0}) (joined_tokens site left right)
unfolding joined_tokens joined_as no_token
joined_tokens-stops site left right =
    elim (class_of (left.pp.spelling ++ right.pp.spelling)) as (λ class. Each (λ _. Unit {0}) (joined_as site left right class)) [ None ↦ inr refl | Some kind ↦ tt ]

joined_with-stops : (site : Site) (left : Item) (right : Piece) → Each (λ _. Unit {0}) (joined_with site left right)
unfolding joined_with
joined_with-stops site left (placemarker blank) = tt
joined_with-stops site left (token right) = joined_tokens-stops site left right
joined_with-stops site left (operator right) = joined_tokens-stops site left right

pub joined-stops : (site : Site) (left right : Piece) → Each (λ _. Unit {0}) (joined site left right)
unfolding joined
joined-stops site (placemarker blank) (placemarker other) = tt
joined-stops site (placemarker blank) (token right) = tt
joined-stops site (placemarker blank) (operator right) = tt
joined-stops site (token left) right = joined_with-stops site left right
joined-stops site (operator left) right = joined_with-stops site left right

piece_before-stops : (piece : Piece) (r : Result (List Piece) Stop) → Each (λ _. Unit {0}) r → Each (λ _. Unit {0}) (piece_before piece r)
unfolding piece_before
piece_before-stops piece (Ok others) has = tt
piece_before-stops piece (Err stop) has = has

pasted_behind-stops : (site : Site) (left : Piece) (pieces : List Piece) → Each (λ _. Unit {0}) (pasted_behind site left pieces)
unfolding pasted_behind
pasted_behind-stops site left [] = tt
pasted_behind-stops site left (token right ∷ others) = piece_before-stops left (pasted_behind site (token right) others) (pasted_behind-stops site (token right) others)
pasted_behind-stops site left (placemarker blank ∷ others) = piece_before-stops left (pasted_behind site (placemarker blank) others) (pasted_behind-stops site (placemarker blank) others)
pasted_behind-stops site left (operator item ∷ []) = tt
pasted_behind-stops site left (operator item ∷ right ∷ others) =
    each_bind (λ _. Unit {0}) _ (joined site left right) _ (joined-stops site left right) (λ both _. pasted_behind-stops site both others)

pub pasted-stops : (site : Site) (pieces : List Piece) → Each (λ _. Unit {0}) (pasted site pieces)
unfolding pasted
pasted-stops site [] = tt
pasted-stops site (piece ∷ pieces) = pasted_behind-stops site piece pieces

module _ (least : ℕ) (expander : Expander) (safe : IsSafe least expander) where
  pub substituted-follows : (site : Site) (hidden : HiddenNumbers) (parts : List Part) (p : Progress) → least ≤ p.spent → p.spent ≤ greatest_work → Each (λ output. Follows p output.progress) (substituted expander site hidden parts p)
  unfolding substituted
  substituted-follows site hidden parts p above within =
      each_bind (λ given. Follows p given.progress) _ (filled_all expander site _ parts p) _ (filled_all-follows least expander safe site _ parts p above within)
      (λ given first.
      each_bind (λ _. Unit {0}) _ (pasted site given.pieces) _ (pasted-stops site given.pieces)
      (λ joined _.
      each_bind (Follows given.progress) _ (cond (list_any is_operator parts) (spend site.name.pp.place (length (tokens_of joined)) given.progress) (Ok given.progress)) _
      (counts-follows (list_any is_operator parts) site.name.pp.place (length (tokens_of joined)) given.progress first.within)
      (λ q second. follows_on p given.progress q first second)))

  -- EXPANSION

  replaced-follows : (invocation : Invocation) (p : Progress) → least ≤ suc p.spent → Each (λ output. Follows p output.progress) (replaced expander invocation p)
  unfolding replaced
  replaced-follows invocation p above =
      each_bind (λ q. Follows p q × (p.spent < q.spent)) _ (begin invocation.macro.number invocation.name invocation.foreign p) _
      (begin-follows invocation.macro.number invocation.name invocation.foreign p)
      (λ q first.
      each_bind (λ output. Follows q output.progress) _ (substituted expander _ invocation.hidden (parts_of invocation.macro.definition) q) _
      (substituted-follows _ invocation.hidden (parts_of invocation.macro.definition) q (omega (arith, first.1)) first.0.within)
      (λ output second.
      each_more (λ last. Follows output.progress last.progress) _ (expander (output.tokens ++ invocation.rest) output.progress)
      (λ last third. follows_on p q last.progress first.0 (follows_on q output.progress last.progress second third))
      (safe (output.tokens ++ invocation.rest) output.progress (omega (arith, first.1, second.rises)) second.within)))

  token_before-follows : (item : Item) (p : Progress) (r : Result Output Stop) → Each (λ output. Follows p output.progress) r → Each (λ output. Follows p output.progress) (token_before item r)
  unfolding token_before
  token_before-follows item p (Ok output) follows = follows
  token_before-follows item p (Err stop) stops = stops

  scanned-follows : (macros : Macros) (tokens : List Item) (p : Progress) → least ≤ suc p.spent → p.spent ≤ greatest_work → Each (λ output. Follows p output.progress) (scanned macros expander tokens p)
  unfolding scanned by_case no_arguments
  scanned-follows macros [] p above within = follows_itself p within
  scanned-follows macros (item ∷ rest) p above within =
      elim (head_of macros p item rest) as (λ head. Each (λ output. Follows p output.progress) (by_case expander item p (scanned macros expander rest p) head)) [
        | put out ↦ token_before-follows out p (scanned macros expander rest p) (scanned-follows macros rest p above within)
        | replace invocation ↦ replaced-follows invocation p above
        | refuse ↦ inl refl
      ]

-- within a depth that is as great as what is left of the work, all is safe
expanded_within-safe : (macros : Macros) (depth least : ℕ) → greatest_work < depth + least → IsSafe least (expanded_within macros depth)
unfolding expanded_within
expanded_within-safe macros zero least deep tokens p above within = absurd (omega arith)
expanded_within-safe macros (suc depth) least deep tokens p above within =
    scanned-follows (suc p.spent) (expanded_within macros depth) (expanded_within-safe macros depth (suc p.spent) (omega arith)) macros tokens p (omega arith) within

pub expanded-follows : (macros : Macros) (tokens : List Item) (p : Progress) → p.spent ≤ greatest_work → Each (λ output. Follows p output.progress) (expanded macros tokens p)
unfolding expanded
expanded-follows macros tokens p within = expanded_within-safe macros (suc (greatest_work - p.spent)) p.spent (omega arith) tokens p (omega arith) within

-- DEPTH

module _ (least : ℕ) (one other : Expander) (safe : IsSafe least one) (agree : Agree least one other) where
  filled-agree : (site : Site) (part : Part) (p : Progress) → least ≤ p.spent → p.spent ≤ greatest_work → filled one site part p ≡ filled other site part p
  unfolding filled
  filled-agree site (plain pp) p above within = refl
  filled-agree site (hash pp parameter) p above within = refl
  filled-agree site (beside pp parameter occurrence) p above within = refl
  filled-agree site (whole pp parameter occurrence) p above within =
      bind_agree (λ output. Follows p output.progress) (one (argument_for site parameter) p) (other (argument_for site parameter) p) _ _
      (agree (argument_for site parameter) p above within) (safe (argument_for site parameter) p above within) (λ output follows. refl)
  filled-agree site (paste pp) p above within = refl

  filled_all-agree : (site : Site) (counts : Bool) (parts : List Part) (p : Progress) → least ≤ p.spent → p.spent ≤ greatest_work → filled_all one site counts parts p ≡ filled_all other site counts parts p
  unfolding filled_all
  filled_all-agree site counts [] p above within = refl
  filled_all-agree site counts (part ∷ parts) p above within =
      bind_agree (λ given. Follows p given.progress) (filled one site part p) (filled other site part p) _ _
      (filled-agree site part p above within) (filled-follows least one safe site part p above within)
      (λ given first.
      bind_agree (Follows given.progress) (cond counts (spend site.name.pp.place (length given.pieces) given.progress) (Ok given.progress)) _ _ _ refl
      (counts-follows counts site.name.pp.place (length given.pieces) given.progress first.within)
      (λ q second.
      bind_agree (λ others. Follows q others.progress) (filled_all one site counts parts q) (filled_all other site counts parts q) _ _
      (filled_all-agree site counts parts q (omega (arith, first.rises, second.rises)) second.within)
      (filled_all-follows least one safe site counts parts q (omega (arith, first.rises, second.rises)) second.within)
      (λ others third. refl)))

  substituted-agree : (site : Site) (hidden : HiddenNumbers) (parts : List Part) (p : Progress) → least ≤ p.spent → p.spent ≤ greatest_work → substituted one site hidden parts p ≡ substituted other site hidden parts p
  unfolding substituted
  substituted-agree site hidden parts p above within =
      bind_agree (λ given. Follows p given.progress) (filled_all one site _ parts p) (filled_all other site _ parts p) _ _
      (filled_all-agree site _ parts p above within) (filled_all-follows least one safe site _ parts p above within) (λ given first. refl)

  replaced-agree : (invocation : Invocation) (p : Progress) → least ≤ suc p.spent → replaced one invocation p ≡ replaced other invocation p
  unfolding replaced
  replaced-agree invocation p above =
      bind_agree (λ q. Follows p q × (p.spent < q.spent)) (begin invocation.macro.number invocation.name invocation.foreign p) _ _ _ refl
      (begin-follows invocation.macro.number invocation.name invocation.foreign p)
      (λ q first.
      bind_agree (λ output. Follows q output.progress) (substituted one _ invocation.hidden (parts_of invocation.macro.definition) q) (substituted other _ invocation.hidden (parts_of invocation.macro.definition) q) _ _
      (substituted-agree _ invocation.hidden (parts_of invocation.macro.definition) q (omega (arith, first.1)) first.0.within)
      (substituted-follows least one safe _ invocation.hidden (parts_of invocation.macro.definition) q (omega (arith, first.1)) first.0.within)
      (λ output second. agree (output.tokens ++ invocation.rest) output.progress (omega (arith, first.1, second.rises)) second.within))

  scanned-agree : (macros : Macros) (tokens : List Item) (p : Progress) → least ≤ suc p.spent → p.spent ≤ greatest_work → scanned macros one tokens p ≡ scanned macros other tokens p
  unfolding scanned by_case
  scanned-agree macros [] p above within = refl
  scanned-agree macros (item ∷ rest) p above within =
      elim (head_of macros p item rest) as (λ head. by_case one item p (scanned macros one rest p) head ≡ by_case other item p (scanned macros other rest p) head) [
        | put out ↦ ap (token_before out) (scanned-agree macros rest p above within)
        | replace invocation ↦ replaced-agree invocation p above
        | refuse ↦ refl
      ]

expanded_within-agree : (macros : Macros) (depth deeper least : ℕ) → greatest_work < depth + least → greatest_work < deeper + least → Agree least (expanded_within macros depth) (expanded_within macros deeper)
unfolding expanded_within
expanded_within-agree macros zero deeper least deep deep' tokens p above within = absurd (omega arith)
expanded_within-agree macros (suc depth) zero least deep deep' tokens p above within = absurd (omega arith)
expanded_within-agree macros (suc depth) (suc deeper) least deep deep' tokens p above within =
    scanned-agree (suc p.spent) (expanded_within macros depth) (expanded_within macros deeper)
    (expanded_within-safe macros depth (suc p.spent) (omega arith))
    (expanded_within-agree macros depth deeper (suc p.spent) (omega arith) (omega arith))
    macros tokens p (omega arith) within

-- Within any depth that is great enough, a list is completely expanded.
pub expanded_within-is : (macros : Macros) (depth least : ℕ) → greatest_work < depth + least → Agree least (expanded_within macros depth) (expanded macros)
unfolding expanded
expanded_within-is macros depth least deep tokens p above within =
    expanded_within-agree macros depth (suc (greatest_work - p.spent)) p.spent (omega arith) (omega arith) tokens p (omega arith) within

-- THE CASES AT THE HEAD OF A LIST

pub expanded-nothing : (macros : Macros) (p : Progress) → expanded macros [] p ≡ Ok (record { tokens = []; progress = p })
unfolding expanded expanded_within scanned
expanded-nothing macros p = refl

pub expanded-put : (macros : Macros) (item out : Item) (rest : List Item) (p : Progress) → head_of macros p item rest ≡ put out → expanded macros (item ∷ rest) p ≡ token_before out (expanded macros rest p)
unfolding expanded expanded_within scanned by_case
expanded-put macros item out rest p is =
    ap (λ head. by_case (expanded_within macros (greatest_work - p.spent)) item p (scanned macros (expanded_within macros (greatest_work - p.spent)) rest p) head) is

pub expanded-refuse : (macros : Macros) (item : Item) (rest : List Item) (p : Progress) → head_of macros p item rest ≡ refuse → expanded macros (item ∷ rest) p ≡ Err (no_arguments item.pp.place)
unfolding expanded expanded_within scanned by_case
expanded-refuse macros item rest p is =
    ap (λ head. by_case (expanded_within macros (greatest_work - p.spent)) item p (scanned macros (expanded_within macros (greatest_work - p.spent)) rest p) head) is

pub expanded-replace : (macros : Macros) (item : Item) (rest : List Item) (invocation : Invocation) (p : Progress) → p.spent ≤ greatest_work → head_of macros p item rest ≡ replace invocation → expanded macros (item ∷ rest) p ≡ replaced (expanded macros) invocation p
unfolding expanded expanded_within scanned by_case
expanded-replace macros item rest invocation p within is =
    ap (λ head. by_case (expanded_within macros (greatest_work - p.spent)) item p (scanned macros (expanded_within macros (greatest_work - p.spent)) rest p) head) is
    ∙ replaced-agree (suc p.spent) (expanded_within macros (greatest_work - p.spent)) (expanded macros)
    (expanded_within-safe macros (greatest_work - p.spent) (suc p.spent) (omega arith))
    (expanded_within-is macros (greatest_work - p.spent) (suc p.spent) (omega arith))
    invocation p (omega arith)
