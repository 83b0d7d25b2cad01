-- What `clap` makes of the words of commands with a few parts.
use Rattle.std.proofs.Common.{◌≡◌, ◌∙◌, ℕ, zero, suc, pred, Bool, true, false, refl, ap, subst, List, [], ◌∷◌, Some, None, codes, fold, ◌⊎◌, inl, inr, if◌then◌else◌}
use Rattle.std.specs.List.{list_all}
use Rattle.std.proofs.lemmas.Bool.{and_from}
use Rattle.clap.specs.Walk.{Row, Text, Walk, finished, first_of, nothing_held, one_of, walk, walk_from, with_default}
use Rattle.clap.specs.Simple.{App, Shape, built, matches_of}
use Rattle.clap.specs.Takes.{default_passes, is_valid, level_passes, settle_passes, takes}
use Rattle.clap.proofs.TakesLemmas.{leaf_takes}
use Rattle.dm_words.specs.CommandLines.{report_line, unit_line, gen_line}
use Rattle.dm_words.specs.Requests.{Part, operand, json, order, steps, input, Are, Given, only, given_by, MeansReport}
use Rattle.dm_words.proofs.ClapParts.{Suits, Ends, rows_of, walk_ends}

-- the operands' ids
abbrev pub two_ids : ℕ → Text
two_ids zero = codes "UNIT"
two_ids (suc zero) = codes "M"
two_ids (suc (suc more)) = codes "UNIT"

abbrev pub lone_id : ℕ → Text
lone_id position = codes "N"

-- one level takes parts that suit it, and its matches are their rows
module _ (shape : Shape) (ids : ℕ → Text) (parts : List Part) (words : List Text) (suits : Suits shape ids 1 parts []) (are : Are parts words) where
  abbrev rows : List Row
  rows = rows_of ids 1 parts

  ends : Ends shape ids (walk_from nothing_held) words rows
  ends = walk_ends shape ids parts (walk_from nothing_held) 1 [] words (record { before = []; pending = None; is = refl; settles = refl; passes = refl }) suits are

  pub finished-rows : finished shape.rules (walk shape.rules [] nothing_held words).held ≡ fold with_default rows shape.rules
  finished-rows = ap (λ (w : Walk). finished shape.rules w.held) ends.at.is ∙ ap (λ found. fold with_default found shape.rules) ends.at.settles

  pub level : list_all default_passes shape.rules ≡ true → is_valid shape (fold with_default rows shape.rules) false ≡ true → level_passes shape [] nothing_held words false ≡ true
  level defaults valid =
      and_from _ _ ends.passes
      (and_from _ _ (ap (λ (w : Walk). settle_passes shape.rules shape.args_override_self w.held) ends.at.is ∙ ends.at.passes)
      (and_from _ _ defaults (ap (λ found. is_valid shape found false) finished-rows ∙ valid)))

-- the parts that give so much
nothing : (parts : List Part) → given_by parts ≡ only [] → parts ≡ []
nothing [] same = refl
nothing (operand text ∷ parts) same = let bad : text ∷ (given_by parts).operands ≡ [] = ap (λ (g : Given). g.operands) same in absurd cc
nothing (json ∷ parts) same = let bad : suc (given_by parts).jsons ≡ 0 = ap (λ (g : Given). g.jsons) same in absurd cc
nothing (order value ∷ parts) same = let bad : value ∷ (given_by parts).orders ≡ [] = ap (λ (g : Given). g.orders) same in absurd cc
nothing (steps value ∷ parts) same = let bad : value ∷ (given_by parts).steps ≡ [] = ap (λ (g : Given). g.steps) same in absurd cc
nothing (input value ∷ parts) same = let bad : value ∷ (given_by parts).inputs ≡ [] = ap (λ (g : Given). g.inputs) same in absurd cc

others_of : List Text → List Text
others_of [] = []
others_of (text ∷ texts) = texts

first_or : Text → List Text → Text
first_or text [] = text
first_or text (first ∷ texts) = first

less_operand : Given → Given
less_operand given = record given { operands = others_of given.operands }

less_json : Given → Given
less_json given = record given { jsons = pred given.jsons }

abbrev with_jsons : ℕ → List Text → Given
with_jsons count operands = record (only operands) { jsons = count }

json_alone : (parts : List Part) → given_by parts ≡ with_jsons 1 [] → parts ≡ json ∷ []
unfolding less_json
json_alone [] same = let bad : zero ≡ suc zero = ap (λ (g : Given). g.jsons) same in absurd cc
json_alone (operand text ∷ parts) same = let bad : text ∷ (given_by parts).operands ≡ [] = ap (λ (g : Given). g.operands) same in absurd cc
json_alone (json ∷ parts) same = ap (λ more. json ∷ more) (nothing parts (ap less_json same))
json_alone (order value ∷ parts) same = let bad : value ∷ (given_by parts).orders ≡ [] = ap (λ (g : Given). g.orders) same in absurd cc
json_alone (steps value ∷ parts) same = let bad : value ∷ (given_by parts).steps ≡ [] = ap (λ (g : Given). g.steps) same in absurd cc
json_alone (input value ∷ parts) same = let bad : value ∷ (given_by parts).inputs ≡ [] = ap (λ (g : Given). g.inputs) same in absurd cc

operand_first : (parts : List Part) (text : Text) (texts : List Text) → given_by parts ≡ only (text ∷ texts) → (rest : List Part) × (parts ≡ operand text ∷ rest) × (given_by rest ≡ only texts)
unfolding less_operand others_of first_or
operand_first [] text texts same = let bad : [] ≡ text ∷ texts = ap (λ (g : Given). g.operands) same in absurd cc
operand_first (operand first ∷ parts) text texts same =
    (parts, ap (λ one. operand one ∷ parts) (ap (λ (g : Given). first_or [] g.operands) same), ap less_operand same)
operand_first (json ∷ parts) text texts same = let bad : suc (given_by parts).jsons ≡ 0 = ap (λ (g : Given). g.jsons) same in absurd cc
operand_first (order value ∷ parts) text texts same = let bad : value ∷ (given_by parts).orders ≡ [] = ap (λ (g : Given). g.orders) same in absurd cc
operand_first (steps value ∷ parts) text texts same = let bad : value ∷ (given_by parts).steps ≡ [] = ap (λ (g : Given). g.steps) same in absurd cc
operand_first (input value ∷ parts) text texts same = let bad : value ∷ (given_by parts).inputs ≡ [] = ap (λ (g : Given). g.inputs) same in absurd cc

operand_alone : (parts : List Part) (text : Text) → given_by parts ≡ only (text ∷ []) → parts ≡ operand text ∷ []
operand_alone parts text same =
    let first = operand_first parts text [] same in
    first.1 ∙ ap (λ more. operand text ∷ more) (nothing first.0 first.2)

operands_alone : (parts : List Part) (text other : Text) → given_by parts ≡ only (text ∷ other ∷ []) → parts ≡ operand text ∷ operand other ∷ []
operands_alone parts text other same =
    let first = operand_first parts text (other ∷ []) same in
    first.1 ∙ ap (λ more. operand text ∷ more) (operand_alone first.0 other first.2)

with_json : (parts : List Part) (text : Text) → given_by parts ≡ with_jsons 1 (text ∷ []) → (parts ≡ operand text ∷ json ∷ []) ⊎ (parts ≡ json ∷ operand text ∷ [])
unfolding less_operand others_of first_or less_json
with_json [] text same = let bad : zero ≡ suc zero = ap (λ (g : Given). g.jsons) same in absurd cc
with_json (operand first ∷ parts) text same =
    inl (ap (λ one. operand one ∷ parts) (ap (λ (g : Given). first_or [] g.operands) same) ∙ ap (λ more. operand text ∷ more) (json_alone parts (ap less_operand same)))
with_json (json ∷ parts) text same = inr (ap (λ more. json ∷ more) (operand_alone parts text (ap less_json same)))
with_json (order value ∷ parts) text same = let bad : value ∷ (given_by parts).orders ≡ [] = ap (λ (g : Given). g.orders) same in absurd cc
with_json (steps value ∷ parts) text same = let bad : value ∷ (given_by parts).steps ≡ [] = ap (λ (g : Given). g.steps) same in absurd cc
with_json (input value ∷ parts) text same = let bad : value ∷ (given_by parts).inputs ≡ [] = ap (λ (g : Given). g.inputs) same in absurd cc

abbrev shape_of : App → Shape
shape_of app = (built app).top

-- a report
pub record ReadsReport (name : Text) (behind : List Text) (project : Text) (as_json : Bool) : Type 0 where
  pub takes : takes (report_line name) (name ∷ behind) ≡ true
  pub project_is : first_of (codes "M") (matches_of (report_line name) (name ∷ behind)) ≡ Some project
  pub form : one_of (codes "json") (matches_of (report_line name) (name ∷ behind)) ≡ Some (if as_json then codes "true" else codes "false")

module _ (name : Text) (behind : List Text) (project : Text) where
  abbrev report_shape : Shape
  report_shape = shape_of (report_line name)

  report_plain : Are (operand project ∷ []) behind → ReadsReport name behind project false
  report_plain are =
      let suits : Suits report_shape two_ids 1 (operand project ∷ []) [] = (record { by_id = refl; by_index = refl; follows = refl }, refl, tt) in
      let is = finished-rows report_shape two_ids (operand project ∷ []) behind suits are in
      record {
        takes = leaf_takes (built (report_line name)) nothing_held behind refl (level report_shape two_ids (operand project ∷ []) behind suits are refl refl);
        project_is = ap (first_of (codes "M")) is;
        form = ap (one_of (codes "json")) is;
      }

  report_last : Are (operand project ∷ json ∷ []) behind → ReadsReport name behind project true
  report_last are =
      let suits : Suits report_shape two_ids 1 (operand project ∷ json ∷ []) [] = (record { by_id = refl; by_index = refl; follows = refl }, refl, (refl, refl, tt)) in
      let is = finished-rows report_shape two_ids (operand project ∷ json ∷ []) behind suits are in
      record {
        takes = leaf_takes (built (report_line name)) nothing_held behind refl (level report_shape two_ids (operand project ∷ json ∷ []) behind suits are refl refl);
        project_is = ap (first_of (codes "M")) is;
        form = ap (one_of (codes "json")) is;
      }

  report_first : Are (json ∷ operand project ∷ []) behind → ReadsReport name behind project true
  report_first are =
      let suits : Suits report_shape two_ids 1 (json ∷ operand project ∷ []) [] = (refl, refl, (record { by_id = refl; by_index = refl; follows = refl }, refl, tt)) in
      let is = finished-rows report_shape two_ids (json ∷ operand project ∷ []) behind suits are in
      record {
        takes = leaf_takes (built (report_line name)) nothing_held behind refl (level report_shape two_ids (json ∷ operand project ∷ []) behind suits are refl refl);
        project_is = ap (first_of (codes "M")) is;
        form = ap (one_of (codes "json")) is;
      }

  pub reads_report : (parts : List Part) (as_json : Bool) → Are parts behind → MeansReport (given_by parts) project as_json → ReadsReport name behind project as_json
  reads_report parts false are means = report_plain (subst (λ all. Are all behind) (operand_alone parts project means) are)
  reads_report parts true are means = at (with_json parts project means)
    where
      at : (parts ≡ operand project ∷ json ∷ []) ⊎ (parts ≡ json ∷ operand project ∷ []) → ReadsReport name behind project true
      at (inl last) = report_last (subst (λ all. Are all behind) last are)
      at (inr first) = report_first (subst (λ all. Are all behind) first are)

-- the unit of a project
pub record ReadsUnit (name : Text) (behind : List Text) (project file : Text) : Type 0 where
  pub takes : takes (unit_line name) (name ∷ behind) ≡ true
  pub project_is : first_of (codes "M") (matches_of (unit_line name) (name ∷ behind)) ≡ Some project
  pub file_is : first_of (codes "UNIT") (matches_of (unit_line name) (name ∷ behind)) ≡ Some file

module _ (name : Text) (behind : List Text) (project file : Text) where
  abbrev unit_shape : Shape
  unit_shape = shape_of (unit_line name)

  unit_plain : Are (operand project ∷ operand file ∷ []) behind → ReadsUnit name behind project file
  unit_plain are =
      let suits : Suits unit_shape two_ids 1 (operand project ∷ operand file ∷ []) [] =
      (record { by_id = refl; by_index = refl; follows = refl }, refl, (record { by_id = refl; by_index = refl; follows = refl }, refl, tt)) in
      let is = finished-rows unit_shape two_ids (operand project ∷ operand file ∷ []) behind suits are in
      record {
        takes = leaf_takes (built (unit_line name)) nothing_held behind refl (level unit_shape two_ids (operand project ∷ operand file ∷ []) behind suits are refl refl);
        project_is = ap (first_of (codes "M")) is;
        file_is = ap (first_of (codes "UNIT")) is;
      }

  pub reads_unit : (parts : List Part) → Are parts behind → given_by parts ≡ only (project ∷ file ∷ []) → ReadsUnit name behind project file
  reads_unit parts are means = unit_plain (subst (λ all. Are all behind) (operands_alone parts project file means) are)

-- a number of definitions
pub record ReadsCount (behind : List Text) (text : Text) : Type 0 where
  pub takes : takes gen_line (codes "gen" ∷ behind) ≡ true
  pub text_is : first_of (codes "N") (matches_of gen_line (codes "gen" ∷ behind)) ≡ Some text

module _ (behind : List Text) (text : Text) where
  abbrev gen_shape : Shape
  gen_shape = shape_of gen_line

  count_plain : Are (operand text ∷ []) behind → ReadsCount behind text
  count_plain are =
      let suits : Suits gen_shape lone_id 1 (operand text ∷ []) [] = (record { by_id = refl; by_index = refl; follows = refl }, refl, tt) in
      record {
        takes = leaf_takes (built gen_line) nothing_held behind refl (level gen_shape lone_id (operand text ∷ []) behind suits are refl refl);
        text_is = ap (first_of (codes "N")) (finished-rows gen_shape lone_id (operand text ∷ []) behind suits are);
      }

  pub reads_count : (parts : List Part) → Are parts behind → given_by parts ≡ only (text ∷ []) → ReadsCount behind text
  reads_count parts are means = count_plain (subst (λ all. Are all behind) (operand_alone parts text means) are)
