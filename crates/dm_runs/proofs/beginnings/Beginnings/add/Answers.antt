-- A trail that was met has its link, and a new one gets one.
use Rattle.std.proofs.Common.{◌≡◌, true, false, not, cond, List, [], ◌∷◌, ◌++◌, Some, slice_get, sym, ap, ◌∙◌, subst}
use Rattle.std.specs.List.{list_any}
use Rattle.std.proofs.lemmas.Bool.{cond-true, cond-false}
use Rattle.dm_token.specs.declared.expansion.Mark.{Mark}
use Rattle.dm_runs.specs.declared.beginnings.Link.{Link}
use Rattle.dm_runs.specs.declared.beginnings.Beginnings.{Beginnings}
use Rattle.dm_runs.specs.Beginnings.{once_more}
use Rattle.dm_runs.specs.Trees.{AreLinked, link_of}
use Rattle.dm_runs.proofs.ItemLemmas.{push-same, slice_get-left}
use Rattle.dm_runs.proofs.LinkLemmas.{same}
use Rattle.dm_runs.proofs.TreeLemmas.{number-of, absent-trail, added-old, added-new, linked-push, not-true, not-false}
use Rattle.dm_runs.proofs.beginnings.Beginnings.add.Goals as goal
use Rattle.dm_runs.proofs.beginnings.Beginnings.add.Goals.{then-is_new+in_ok-copy+in_ok-push, else-is_new}

mark-is : (c : goal.Joined-is_new) → c.in-Some.mark ≡ c.requires.longer.mark
mark-is c = (push-same c.in-Some.ensures.0 c.requires.longer.outer c.in-Some.mark c.requires.longer.mark (sym c.in-Some.ensures.1 ∙ c.requires.longer.longer)).1

link-is : (c : goal.Joined-is_new) → c.link_to.result ≡ link_of c.args.above c.requires.longer.mark
link-is c = c.link_to.ensures ∙ ap (link_of c.args.above) (mark-is c)

-- whether the link is new
is-new : (c : goal.Joined-is_new) → c.in_ok-index.is_new ≡ not (list_any (same (link_of c.args.above c.requires.longer.mark)) c.args.self.now.links.keys)
is-new c = c.in_ok-index.ensures.added ∙ ap (λ link. not (list_any (same link) c.args.self.now.links.keys)) (link-is c)

abbrev longer : goal.Joined-is_new → List Mark
longer c = c.requires.longer.outer ++ c.requires.longer.mark ∷ []

keys-new : (c : goal.Joined-is_new) → list_any (same (link_of c.args.above c.requires.longer.mark)) c.args.self.now.links.keys ≡ false
    → c.insert_full.new.self.keys ≡ c.args.self.now.links.keys ++ link_of c.args.above c.requires.longer.mark ∷ []
keys-new c absent =
    let links = c.args.self.now.links.keys in
    c.in_ok-index.ensures.keys ∙ ap (λ link. cond (list_any (same link) links) links (links ++ link ∷ [])) (link-is c)
    ∙ cond-false (list_any (same (link_of c.args.above c.requires.longer.mark)) links) links (links ++ link_of c.args.above c.requires.longer.mark ∷ []) absent

keys-old : (c : goal.Joined-is_new) → list_any (same (link_of c.args.above c.requires.longer.mark)) c.args.self.now.links.keys ≡ true
    → c.insert_full.new.self.keys ≡ c.args.self.now.links.keys
keys-old c present =
    let links = c.args.self.now.links.keys in
    c.in_ok-index.ensures.keys ∙ ap (λ link. cond (list_any (same link) links) links (links ++ link ∷ [])) (link-is c)
    ∙ cond-true (list_any (same (link_of c.args.above c.requires.longer.mark)) links) links (links ++ link_of c.args.above c.requires.longer.mark ∷ []) present

linked-after : (c : goal.Joined-is_new) → AreLinked c.if-is_new.self.links.keys c.if-is_new.self.trails.items
linked-after c =
    let r = c.requires.longer in
    let links = c.args.self.now.links.keys in
    let trails = c.args.self.now.trails.items in
    elim c.if-is_new.branch [
      | then-is_new+in_ok-copy+in_ok-push w ↦
          let absent = not-true (list_any (same (link_of c.args.above r.mark)) links) (sym w.if-is_new.true ∙ is-new c) in
          let pushed : w.push.new.self.items ≡ trails ++ (r.outer ++ r.mark ∷ []) ∷ [] = w.in_ok-push.ensures.items ∙ ap (λ (t : List Mark). trails ++ t ∷ []) (w.in_ok-copy.ensures ∙ r.longer) in
          subst (λ (b : Beginnings). AreLinked b.links.keys b.trails.items) (sym w.self-is)
          (subst (λ (ks : List Link). AreLinked ks w.push.new.self.items) (sym (keys-new c absent))
          (subst (λ (ts : List (List Mark)). AreLinked (links ++ link_of c.args.above r.mark ∷ []) ts) (sym pushed)
          (linked-push links trails c.requires.linked c.args.above r.outer r.mark r.known (absent-trail links trails c.requires.linked c.args.above r.outer r.mark r.known absent))))
      | else-is_new w ↦
          let present = not-false (list_any (same (link_of c.args.above r.mark)) links) (sym w.if-is_new.false ∙ is-new c) in
          subst (λ (b : Beginnings). AreLinked b.links.keys b.trails.items) (sym w.self-is)
          (subst (λ (ks : List Link). AreLinked ks trails) (sym (keys-old c present)) c.requires.linked)
    ]

pub returns-clause-linked : goal.returns-clause-linked
returns-clause-linked c = linked-after c

trails-after : (c : goal.Joined-is_new) → c.if-is_new.self.trails.items ≡ once_more c.args.self.now.trails.items (longer c)
trails-after c =
    let r = c.requires.longer in
    let links = c.args.self.now.links.keys in
    let trails = c.args.self.now.trails.items in
    elim c.if-is_new.branch [
      | then-is_new+in_ok-copy+in_ok-push w ↦
          let absent = not-true (list_any (same (link_of c.args.above r.mark)) links) (sym w.if-is_new.true ∙ is-new c) in
          let pushed : w.push.new.self.items ≡ trails ++ (r.outer ++ r.mark ∷ []) ∷ [] = w.in_ok-push.ensures.items ∙ ap (λ (t : List Mark). trails ++ t ∷ []) (w.in_ok-copy.ensures ∙ r.longer) in
          ap (λ (b : Beginnings). b.trails.items) w.self-is ∙ pushed ∙ added-new links trails c.requires.linked c.args.above r.outer r.mark r.known absent
      | else-is_new w ↦
          let present = not-false (list_any (same (link_of c.args.above r.mark)) links) (sym w.if-is_new.false ∙ is-new c) in
          ap (λ (b : Beginnings). b.trails.items) w.self-is ∙ added-old links trails c.requires.linked c.args.above r.outer r.mark r.known present
    ]

pub returns-clause-trails : goal.returns-clause-trails
returns-clause-trails c = trails-after c ∙ ap (once_more c.args.self.now.trails.items) (sym c.requires.longer.longer)

links-are : (c : goal.Joined-is_new) → c.if-is_new.self.links.keys ≡ c.insert_full.new.self.keys
links-are c =
    elim c.if-is_new.branch [
      | then-is_new+in_ok-copy+in_ok-push w ↦ ap (λ (b : Beginnings). b.links.keys) w.self-is
      | else-is_new w ↦ ap (λ (b : Beginnings). b.links.keys) w.self-is
    ]

known-after : (c : goal.Joined-is_new) → slice_get c.if-is_new.self.trails.items c.args.above ≡ Some c.requires.longer.outer
known-after c =
    let r = c.requires.longer in
    let trails = c.args.self.now.trails.items in
    elim c.if-is_new.branch [
      | then-is_new+in_ok-copy+in_ok-push w ↦
          ap (λ (b : Beginnings). slice_get b.trails.items c.args.above) w.self-is
          ∙ ap (λ (ts : List (List Mark)). slice_get ts c.args.above) w.in_ok-push.ensures.items
          ∙ slice_get-left trails (w.in_ok-copy.field-0 ∷ []) c.args.above r.outer r.known
      | else-is_new w ↦ ap (λ (b : Beginnings). slice_get b.trails.items c.args.above) w.self-is ∙ r.known
    ]

pub returns-clause-number : goal.returns-clause-number
returns-clause-number c =
    let r = c.requires.longer in
    let stored = c.in_ok-index.ensures.stored in
    number-of c.if-is_new.self.links.keys c.if-is_new.self.trails.items (linked-after c) c.args.above r.outer r.mark (known-after c) c.in_ok-index.index stored.0
    (ap (λ (ks : List Link). slice_get ks c.in_ok-index.index) (links-are c) ∙ stored.1)
    (ap (λ link. same link stored.0) (sym (link-is c)) ∙ stored.2)
    ∙ ap Some (sym r.longer)
