-- The calls of each form of statement, in their order, and what is made of them.
use Rattle.std.specs.Prelude.{◌≡◌, ℕ, ◌+◌, ◌<◌, ◌≤◌, true, false, List, [], ◌∷◌, ◌++◌, map, drop, length, Option, Some, None, option_map, Result, Ok, Err, IsErrAnd, refl}
use Rattle.std.specs.FinMap as finite
use Rattle.std.proofs.Common.{sym, ap, ◌∙◌, subst, get_or}
use Rattle.dm_token.specs.declared.place.Span.{Span}
use Rattle.dm_token.specs.declared.stop.Stop.{Stop}
use Rattle.dm_int.specs.declared.Kind.{Kind}
use Rattle.dm_type.specs.declared.shape.Shape.{Shape}
use Rattle.dm_type.specs.Tables.{Table}
use Rattle.dm_syn.specs.declared.expression.Expr.{Expr}
use Rattle.dm_syn.specs.declared.statement.ForStart.{ForStart}
use Rattle.dm_syn.specs.declared.statement.Item.{Item}
use Rattle.dm_syn.specs.declared.statement.Stmt.{Stmt}
use Rattle.dm_syn.specs.declared.statement.SwitchForm.TheVariants as form
use Rattle.dm_syn.specs.declared.statement.SwitchItem.{SwitchItem}
use Rattle.dm_syn.specs.Sources.{Source}
use Rattle.dm_syn.specs.Trees as tree
use Rattle.dm_syn.specs.Views as syntax
use Rattle.dm_tree.specs.declared.tree.Core.{Core}
use Rattle.dm_tree.specs.Trees.{Tree}
use Rattle.dm_tree.specs.Trees as label
use Rattle.dm_typing.specs.declared.typer.Typer.{Typer}
use Rattle.dm_typing.specs.Fitting.{IsNumbered, AreNumbered}
use Rattle.dm_typing.specs.Views.{Begins, view_over, source_of, setting_of}
use Rattle.dm_eexpr.proofs.LoopLemmas.{cut, past}
use Rattle.dm_edecl.specs.Standing.{Standing, Progress, goes_on, further, typing, opened, closed, known_behind}
use Rattle.dm_edecl.specs.Statements.{in_switch, statement, typed_condition, Subject, typed_subject, Labelled, AllLabelled, is_label_among, for_statement, typed_stmt, typed_items_in, typed_item_in, typed_switch_items, typed_switch_item}
use Rattle.dm_estanding.specs.declared.standing.Standing.{Standing as Held}
use Rattle.dm_estanding.specs.Proceeding.{Proceeds}
use Rattle.dm_estanding.specs.Summaries.{StandsFor}
use Rattle.dm_estanding.specs.Undoing.{IsWithin, Opens}
use Rattle.dm_estanding.proofs.ProceedingLemmas.{Arrives, typing-further, restated, done, relays, scoped, scope-fails, none-there}
use Rattle.dm_estatement.specs.declared.labels.Labels.{Labels}
use Rattle.dm_estatement.specs.declared.switches.AllLabelled.{AllLabelled as AllHeld}
use Rattle.dm_estatement.specs.declared.switches.Labelled.{Labelled as LabelledHeld}
use Rattle.dm_estatement.specs.declared.within.Within.{Within}
use Rattle.dm_estatement.specs.Parts.{within_over, trees_over, labels_of, labelled_over, LabelledFits, all_over, AllFit, typed_label, joined, item_behind, Clauses, typed_clauses, scoped_stmt, other_part, choice_inside, switch_part, stmt_inside}
use Rattle.dm_estatement.proofs.StageLemmas.{Single, Pair, Triple, Awaits}
use Rattle.dm_estatement.proofs.StepLemmas.{do-is, behind_these, items-next, items-end, behind_all, switch-next, switch-end, unlabelled, cased, defaulted, case-is, default-is, unlabelled-is}
use Rattle.dm_estatement.proofs.ViewLemmas.{view-unlabelled}

module _ (typer : Typer) (w : Within) where
  abbrev whole : tree.Stmt → List Shape → Standing → Progress Tree
  whole stmt later before = stmt_inside (setting_of typer) (within_over later w) before stmt

  abbrev condition_at : Expr → Standing → Progress Tree
  condition_at condition before = typing before (typed_condition (setting_of typer) before.known (syntax.expr condition)) (λ behind it. goes_on behind it)

  -- ---- statements

  abbrev pub block-call : (span : Span) (items : List Item) → Single (List Tree) (whole (tree.block span (syntax.block_items (map syntax.block_item items))))
  block-call span items = record {
    one = λ later before. typed_items_in (setting_of typer) (within_over later w) before (syntax.block_items (map syntax.block_item items));
    made = λ later trees. statement (setting_of typer) span label.block trees;
    is = λ later before. refl;
  }

  abbrev pub choice-calls : (span : Span) (condition : Expr) (body : Stmt) (other : Option Stmt)
      → Triple Tree Tree (List Tree) (λ later before. choice_inside (setting_of typer) (within_over later w) before span (syntax.expr condition) (syntax.stmt body) (option_map syntax.stmt other))
  choice-calls span condition body other = record {
    one = λ later before. condition_at condition before;
    two = λ later before. scoped_stmt (setting_of typer) (within_over later w) before (syntax.stmt body);
    three = λ later before. other_part (setting_of typer) (within_over later w) before (option_map syntax.stmt other);
    made = λ later value first second. statement (setting_of typer) span label.if_statement (value ∷ first ∷ second);
    is = λ later before. typing-further before (typed_condition (setting_of typer) before.known (syntax.expr condition)) (λ behind it. goes_on behind it)
        (λ then_inside value. further (scoped_stmt (setting_of typer) (within_over later w) then_inside (syntax.stmt body))
        (λ then_more first. further (other_part (setting_of typer) (within_over later w) then_more (option_map syntax.stmt other))
        (λ behind second. goes_on behind (statement (setting_of typer) span label.if_statement (value ∷ first ∷ second)))));
  }

  abbrev pub other-call : {there : Stmt} (other : Option Stmt) (got : Stmt) → other ≡ Some there → got ≡ there
      → Single Tree (λ later before. other_part (setting_of typer) (within_over later w) before (option_map syntax.stmt other))
  other-call other got is same = record {
    one = λ later before. scoped_stmt (setting_of typer) (within_over later w) before (syntax.stmt got);
    made = λ later made. made ∷ [];
    is = λ later before. ap (λ one. other_part (setting_of typer) (within_over later w) before (option_map syntax.stmt one)) is
        ∙ ap (λ one. other_part (setting_of typer) (within_over later w) before (Some (syntax.stmt one))) (sym same);
  }

  abbrev pub switch-calls : (span : Span) (operand : Expr) (items : List SwitchItem)
      → Pair Subject AllLabelled (whole (tree.switch span (syntax.expr operand) (syntax.switch_items (map syntax.switch_item items))))
  switch-calls span operand items = record {
    one = λ later before. typing before (typed_subject (setting_of typer) before.known (syntax.expr operand)) (λ behind it. goes_on behind it);
    two = λ later one before. switch_part (setting_of typer) (within_over later w) one.kind before (syntax.switch_items (map syntax.switch_item items));
    made = λ later one all. statement (setting_of typer) span label.switch (one.tree ∷ all.trees);
    is = λ later before. typing-further before (typed_subject (setting_of typer) before.known (syntax.expr operand)) (λ behind it. goes_on behind it)
        (λ then_inside one. further (switch_part (setting_of typer) (within_over later w) one.kind then_inside (syntax.switch_items (map syntax.switch_item items)))
        (λ behind all. goes_on behind (statement (setting_of typer) span label.switch (one.tree ∷ all.trees))));
  }

  -- in a loop, `break` and `continue` may stand
  module _ (inner : Within) (same : inner ≡ record w { breaks = true; continues = true }) (span : Span) where
    abbrev pub while-calls : (condition : Expr) (body : Stmt) → Pair Tree Tree (whole (tree.while span (syntax.expr condition) (syntax.stmt body)))
    while-calls condition body = record {
      one = λ later before. condition_at condition before;
      two = λ later value before. scoped_stmt (setting_of typer) (within_over later inner) before (syntax.stmt body);
      made = λ later value made. statement (setting_of typer) span label.while_loop (value ∷ made ∷ []);
      is = λ later before. subst
          (λ (one : Within). whole (tree.while span (syntax.expr condition) (syntax.stmt body)) later before ≡ further (condition_at condition before) (λ then_inside value.
          further (scoped_stmt (setting_of typer) (within_over later one) then_inside (syntax.stmt body)) (λ behind made. goes_on behind (statement (setting_of typer) span label.while_loop (value ∷ made ∷ [])))))
          (sym same)
          (typing-further before (typed_condition (setting_of typer) before.known (syntax.expr condition)) (λ behind it. goes_on behind it)
          (λ then_inside value. further (scoped_stmt (setting_of typer) (within_over later (record w { breaks = true; continues = true })) then_inside (syntax.stmt body))
          (λ behind made. goes_on behind (statement (setting_of typer) span label.while_loop (value ∷ made ∷ [])))));
    }

    abbrev pub do-calls : (body : Stmt) (condition : Expr) → Pair Tree Tree (whole (tree.do_while span (syntax.stmt body) (syntax.expr condition)))
    do-calls body condition = record {
      one = λ later before. scoped_stmt (setting_of typer) (within_over later inner) before (syntax.stmt body);
      two = λ later made before. condition_at condition before;
      made = λ later made value. statement (setting_of typer) span label.do_loop (made ∷ value ∷ []);
      is = λ later before. subst
          (λ (one : Within). whole (tree.do_while span (syntax.stmt body) (syntax.expr condition)) later before ≡ further (scoped_stmt (setting_of typer) (within_over later one) before (syntax.stmt body)) (λ then_inside made.
          further (condition_at condition then_inside) (λ behind value. goes_on behind (statement (setting_of typer) span label.do_loop (made ∷ value ∷ [])))))
          (sym same) (do-is (setting_of typer) (within_over later w) before span (syntax.stmt body) (syntax.expr condition));
    }

    abbrev pub for-calls : (start : ForStart) (condition step : Option Expr) (body : Stmt)
        → Pair Clauses Tree (whole (tree.for_loop span (syntax.start start) (option_map syntax.expr condition) (option_map syntax.expr step) (syntax.stmt body)))
    for-calls start condition step body = record {
      one = λ later before. typed_clauses (setting_of typer) before (syntax.start start) (option_map syntax.expr condition) (option_map syntax.expr step);
      two = λ later all before. scoped_stmt (setting_of typer) (within_over later inner) before (syntax.stmt body);
      made = λ later all made. for_statement (setting_of typer) span all.first all.condition all.step made;
      is = λ later before. subst
          (λ (one : Within). whole (tree.for_loop span (syntax.start start) (option_map syntax.expr condition) (option_map syntax.expr step) (syntax.stmt body)) later before
          ≡ further (typed_clauses (setting_of typer) before (syntax.start start) (option_map syntax.expr condition) (option_map syntax.expr step)) (λ then_all all.
          further (scoped_stmt (setting_of typer) (within_over later one) then_all (syntax.stmt body)) (λ behind made. goes_on behind (for_statement (setting_of typer) span all.first all.condition all.step made))))
          (sym same) refl;
    }

  -- ---- the items of a block

  module _ {old now : Held} (items : List Item) (i : ℕ) (trees : List Core)
      (reached : Arrives old now (λ later before. typed_items_in (setting_of typer) (within_over later w) before (syntax.block_items (map syntax.block_item items)))
      (λ later behind. behind_these (trees_over later trees) (typed_items_in (setting_of typer) (within_over later w) behind (syntax.block_items (map syntax.block_item (drop i items)))))) where
    abbrev all_items : List Shape → Standing → Progress (List Tree)
    all_items later before = typed_items_in (setting_of typer) (within_over later w) before (syntax.block_items (map syntax.block_item items))

    abbrev items_left : List Item → List Shape → Standing → Progress (List Tree)
    items_left some later behind = behind_these (trees_over later trees) (typed_items_in (setting_of typer) (within_over later w) behind (syntax.block_items (map syntax.block_item some)))

    abbrev pub item-call : (item : Item) → i < length items → item ≡ get_or items i item → Awaits Tree old now all_items
    item-call item inside is = record {
      one = λ later behind. typed_item_in (setting_of typer) (within_over later w) behind (syntax.block_item item);
      next = λ later then_standing made. behind_these (trees_over later trees ++ made ∷ []) (typed_items_in (setting_of typer) (within_over later w) then_standing (syntax.block_items (map syntax.block_item (drop (i + 1) items))));
      arrived = restated old now all_items (items_left (drop i items)) _ reached
          (λ later on behind stands lawful. ap (λ some. items_left some later behind) (cut items i item inside is)
          ∙ items-next (setting_of typer) (within_over later w) behind (trees_over later trees) (syntax.block_item item) (syntax.block_items (map syntax.block_item (drop (i + 1) items))));
    }

    pub items-done : length items ≤ i → AreNumbered now.known.types trees → Proceeds AreNumbered trees_over (source_of typer) old now (Ok trees) all_items
    items-done none fits =
        done AreNumbered trees_over (source_of typer) old now all_items trees
        (restated old now all_items (items_left (drop i items)) (λ later behind. goes_on behind (trees_over later trees)) reached
        (λ later on behind stands lawful. ap (λ some. items_left some later behind) (past items i none) ∙ items-end (setting_of typer) (within_over later w) behind (trees_over later trees)))
        fits

  module _ (kind : Kind) where
    -- ---- the items of a switch

    module _ {old now : Held} (items : List SwitchItem) (i : ℕ) (all : AllHeld)
        (reached : Arrives old now (λ later before. typed_switch_items (setting_of typer) (within_over later w) kind before [] (syntax.switch_items (map syntax.switch_item items)))
        (λ later behind. behind_all (all_over later all) (typed_switch_items (setting_of typer) (within_over later w) kind behind (labels_of all.labels) (syntax.switch_items (map syntax.switch_item (drop i items)))))) where
      abbrev all_labelled : List Shape → Standing → Progress AllLabelled
      all_labelled later before = typed_switch_items (setting_of typer) (within_over later w) kind before [] (syntax.switch_items (map syntax.switch_item items))

      abbrev labelled_left : List SwitchItem → List Shape → Standing → Progress AllLabelled
      labelled_left some later behind =
          behind_all (all_over later all) (typed_switch_items (setting_of typer) (within_over later w) kind behind (labels_of all.labels) (syntax.switch_items (map syntax.switch_item some)))

      abbrev pub switch-item-call : (item : SwitchItem) → i < length items → item ≡ get_or items i item → Awaits AllLabelled old now all_labelled
      switch-item-call item inside is = record {
        one = λ later behind. item_behind (setting_of typer) (within_over later w) kind (all_over later all) behind (syntax.switch_item item);
        next = λ later then_standing more. behind_all more (typed_switch_items (setting_of typer) (within_over later w) kind then_standing more.labels (syntax.switch_items (map syntax.switch_item (drop (i + 1) items))));
        arrived = restated old now all_labelled (labelled_left (drop i items)) _ reached
            (λ later on behind stands lawful. ap (λ some. labelled_left some later behind) (cut items i item inside is)
            ∙ switch-next (setting_of typer) (within_over later w) kind behind (all_over later all) (syntax.switch_item item) (syntax.switch_items (map syntax.switch_item (drop (i + 1) items))));
      }

      pub switch-items-done : length items ≤ i → AllFit now.known.types all → Proceeds AllFit all_over (source_of typer) old now (Ok all) all_labelled
      switch-items-done none fits =
          done AllFit all_over (source_of typer) old now all_labelled all
          (restated old now all_labelled (labelled_left (drop i items)) (λ later behind. goes_on behind (all_over later all)) reached
          (λ later on behind stands lawful. ap (λ some. labelled_left some later behind) (past items i none) ∙ switch-end (setting_of typer) (within_over later w) kind behind (all_over later all)))
          fits

    -- ---- one item of a switch

    abbrev pub item-behind-call : (all : AllHeld) (item : SwitchItem) → Single Labelled (λ later before. item_behind (setting_of typer) (within_over later w) kind (all_over later all) before (syntax.switch_item item))
    item-behind-call all item = record {
      one = λ later before. typed_switch_item (setting_of typer) (within_over later w) kind before (labels_of all.labels) (syntax.switch_item item);
      made = λ later one. joined (all_over later all) one;
      is = λ later before. refl;
    }

    module _ (labels : Labels) where
      abbrev labelled : tree.SwitchItem → List Shape → Standing → Progress Labelled
      labelled item later before = typed_switch_item (setting_of typer) (within_over later w) kind before (labels_of labels) item

      abbrev pub case-calls : (span : Span) (expr : Expr) (item : SwitchItem) → Pair Labelled Labelled (labelled (tree.case span (syntax.expr expr) (syntax.switch_item item)))
      case-calls span expr item = record {
        one = λ later before. typed_label (setting_of typer) kind (labels_of labels) before (syntax.expr expr);
        two = λ later one before. typed_switch_item (setting_of typer) (within_over later w) kind before one.labels (syntax.switch_item item);
        made = λ later one made. cased (setting_of typer) span one made;
        is = λ later before. case-is (setting_of typer) (within_over later w) kind before (labels_of labels) span (syntax.expr expr) (syntax.switch_item item);
      }

      abbrev pub default-call : (more : Labels) (span : Span) (item : SwitchItem) → is_label_among None (labels_of labels) ≡ false → labels_of more ≡ None ∷ labels_of labels
          → Single Labelled (labelled (tree.default span (syntax.switch_item item)))
      default-call more span item fresh adds = record {
        one = λ later before. typed_switch_item (setting_of typer) (within_over later w) kind before (labels_of more) (syntax.switch_item item);
        made = λ later made. defaulted (setting_of typer) span made;
        is = λ later before. default-is (setting_of typer) (within_over later w) kind before (labels_of labels) span (syntax.switch_item item) fresh
            ∙ ap (λ all. further (typed_switch_item (setting_of typer) (within_over later w) kind before all (syntax.switch_item item)) (λ behind made. goes_on behind (defaulted (setting_of typer) span made))) (sym adds);
      }

      abbrev pub unlabelled-call : (item : SwitchItem) (stmt : Stmt) → item.form ≡ form.Statement stmt → Single Tree (labelled (syntax.switch_item item))
      unlabelled-call item stmt is = record {
        one = λ later before. typed_stmt (setting_of typer) (within_over later w) before (syntax.stmt stmt);
        made = λ later made. unlabelled made (labels_of labels);
        is = λ later before. ap (typed_switch_item (setting_of typer) (within_over later w) kind before (labels_of labels)) (view-unlabelled item stmt is)
            ∙ unlabelled-is (setting_of typer) (within_over later w) kind before (labels_of labels) item.span (syntax.stmt stmt);
      }

      -- an item by its form
      pub labelled-as : {source : Source} {old new : Held} {result : Result LabelledHeld Stop} {by_form : tree.SwitchItem} (item : SwitchItem) → syntax.switch_item item ≡ by_form
          → Proceeds LabelledFits labelled_over source old new result (labelled by_form) → Proceeds LabelledFits labelled_over source old new result (labelled (syntax.switch_item item))
      labelled-as {source = source} {old = old} {new = new} {result = result} item is p =
          subst (λ (one : tree.SwitchItem). Proceeds LabelledFits labelled_over source old new result (labelled one)) (sym is) p

    -- in a switch, `break` may stand
    pub switch-inside : {source : Source} {old new : Held} {result : Result AllHeld Stop} (items : List SwitchItem) (inner : Within) → inner ≡ record w { breaks = true }
        → Proceeds AllFit all_over source old new result (λ later inside. typed_switch_items (setting_of typer) (within_over later inner) kind inside [] (syntax.switch_items (map syntax.switch_item items)))
        → Proceeds AllFit all_over source old new result (λ later inside. typed_switch_items (setting_of typer) (in_switch (within_over later w)) kind inside [] (syntax.switch_items (map syntax.switch_item items)))
    switch-inside {source = source} {old = old} {new = new} {result = result} items inner same p =
        subst (λ (one : Within). Proceeds AllFit all_over source old new result (λ later inside. typed_switch_items (setting_of typer) (within_over later one) kind inside [] (syntax.switch_items (map syntax.switch_item items)))) same p

  -- a statement by its form
  pub stmt-as : {source : Source} {old new : Held} {result : Result Core Stop} {by_form : tree.Stmt} (stmt : Stmt) → syntax.stmt stmt ≡ by_form → Proceeds IsNumbered view_over source old new result (whole by_form)
      → Proceeds IsNumbered view_over source old new result (whole (syntax.stmt stmt))
  stmt-as {source = source} {old = old} {new = new} {result = result} stmt is p = subst (λ (one : tree.Stmt). Proceeds IsNumbered view_over source old new result (whole one)) (sym is) p

-- ---- what is typed in a scope of its own

module _ {A B : Type 0} {Fits : Table → A → Type 0} {view : List Shape → A → B} {source : Source} {outside opened-held inside : Held} {progress : List Shape → Standing → Progress B} (opens : Opens outside opened-held)
    (enters : (later : List Shape) (before : Standing) → StandsFor later outside.known outside.links before → StandsFor later opened-held.known opened-held.links (opened finite.empty before)) where
  pub own-fails : {fault : Stop} {result : Result A Stop} → Proceeds Fits view source opened-held inside (Err fault) progress → IsErrAnd result (λ e. e ≡ fault)
      → Proceeds Fits view source outside inside result (λ later before. closed before (progress later (opened finite.empty before)))
  own-fails {fault = fault} {result = result} p handed =
      relays Fits view source outside inside (λ later before. closed before (progress later (opened finite.empty before))) result fault handed
      (scope-fails Fits view source outside opened-held inside finite.empty progress opens enters (λ later before stands. none-there before.known.declared) fault p)

  pub own-ends : {new : Held} {it : A} → Proceeds Fits view source opened-held inside (Ok it) progress → new.known.types ≡ inside.known.types → IsWithin outside new
      → ((later : List Shape) → Begins inside.known.types.shapes later → (before within : Standing) → StandsFor later outside.known outside.links before
      → StandsFor later inside.known inside.links within → StandsFor later new.known new.links (record within { known = known_behind before.known within.known }))
      → Proceeds Fits view source outside new (Ok it) (λ later before. closed before (progress later (opened finite.empty before)))
  own-ends {new = new} {it = it} p types around closes =
      scoped Fits view source outside opened-held inside finite.empty progress opens enters (λ later before stands. none-there before.known.declared) new it p types around closes
