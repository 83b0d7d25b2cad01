use Rattle.std.proofs.Common.{◌≡◌, ◌≤◌, ◌∷◌, [], ℕ, List, Ok, Err, length, sym, ◌∙◌, subst, refl, arith}
use Rattle.std.proofs.lemmas.List.Elements.{All-rest}
use Rattle.dm_token.specs.Limits.{source_length_limit}
use Rattle.dm_unit.specs.Definitions.{DoesManifest}
use Rattle.dm_unit.specs.Readings.{DoesManifests}
use Rattle.dm_unit.specs.Views.{state_of}
use Rattle.dm_unit.proofs.ReadingLemmas.{stops-map, manifests-none, manifests-go, manifests-stop}
use Rattle.dm_unit.proofs.read_defines.Goals as goal

none : (defines : List (List ℕ)) → length defines ≡ 0 → defines ≡ []
none [] e = refl
none (define ∷ defines) e = absurd (omega (arith, e))

pub loop-define-preserved : goal.loop-define-preserved
loop-define-preserved c =
    let inv = c.loop-define.invariant in
    let done = c.in-Ok.ensures in
    record {
      follows = record { main = done.follows.main ∙ inv.follows.main; inclusions = done.follows.inclusions ∙ inv.follows.inclusions; counted = done.follows.counted };
      short = All-rest (λ (define : List ℕ). length define ≤ source_length_limit) c.in-Some.define.now c.in-Some.others.now c.loop-define.rest.now c.in-Some.ensures.cases.0 inv.short;
      leads = λ setting files outcome mains rest. inv.leads setting files outcome mains
          (subst (λ (defines : List (List ℕ)). DoesManifests setting defines (state_of c.loop-define.reader files) outcome) (sym c.in-Some.ensures.cases.0)
          (manifests-go setting c.in-Some.define.now c.in-Some.others.now (state_of c.loop-define.reader files) (state_of c.define_of_manifest.new.reader files) outcome
          (subst (λ (main : ℕ). DoesManifest main c.in-Some.define.now (state_of c.loop-define.reader files) (Ok (state_of c.define_of_manifest.new.reader files))) (inv.follows.main ∙ sym mains) (done.leads files)) rest));
    }

pub returns-in-Err-clause-leads : goal.returns-in-Err-clause-leads
returns-in-Err-clause-leads c = λ setting files mains.
    let inv = c.loop-define.invariant in
    stops-map (DoesManifest c.loop-define.reader.main c.in-Some.define.now (state_of c.loop-define.reader files)) (DoesManifests setting c.args.defines.now (state_of c.args.reader.now files)) c.in-Err.stop
    (λ other first. inv.leads setting files (Err other) mains
    (subst (λ (defines : List (List ℕ)). DoesManifests setting defines (state_of c.loop-define.reader files) (Err other)) (sym c.in-Some.ensures.cases.0)
    (manifests-stop setting c.in-Some.define.now c.in-Some.others.now (state_of c.loop-define.reader files) other
    (subst (λ (main : ℕ). DoesManifest main c.in-Some.define.now (state_of c.loop-define.reader files) (Err other)) (inv.follows.main ∙ sym mains) first))))
    (c.in-Err.ensures.leads files)

pub returns-clause-leads : goal.returns-clause-leads
returns-clause-leads c = λ setting files mains.
    let state = state_of c.loop-define.reader files in
    c.loop-define.invariant.leads setting files (Ok state) mains
    (subst (λ (defines : List (List ℕ)). DoesManifests setting defines state (Ok state)) (sym (none c.loop-define.rest.now c.in_default.ensures.cases)) (manifests-none setting state))
