-- The premises of the law, for a macro that reads both parameters twice.
use Rattle.std.specs.Prelude.{refl, length, [], ◌∷◌, Some}
use Rattle.std.specs.List.{IsDistinct}
use Rattle.std.proofs.Common.{arith, true≢false, ap, sym, subst, inl, inr}
use Rattle.std.proofs.lemmas.List.Elements.{All-nil, All-from_recursion}
use Rattle.dm_type.specs.Tables.{no_type}
use Rattle.dm_tree.specs.Typing.{IsEntry, ExternalFits, IsWellTypedUnit, file_scene}
use Rattle.dm_tree.specs.Units.{Declaration, External}
use Rattle.dm_meaning.specs.Among.{IsAmong}
use Rattle.dm_meaning.specs.Units.{program_of}
use Rattle.dm_sound.specs.TypedTrees.{IsProper}
use Rattle.dm_sound.specs.TypedRuns.{IsProperForm, IsProperUnit, IsTypedProgram}
use Rattle.dm_sound.proofs.ExampleLemmas.{table_sound}
use Rattle.dm_sound.proofs.UnitLemmas.{unit_typed}
use Rattle.dm_central.specs.Arguments.{ReadsFirst}
use Rattle.dm_central.specs.ClosedPrograms.{AreAlwaysSafe}
use Rattle.dm_align.specs.Examples.{max_old, max_new, max_body, max_put, max_rewriting, run_of_max}
use Rattle.dm_align.specs.Units.{moved, other_externals}
use Rattle.dm_refine.proofs.ExampleLemmas.{one_statement}
use Rattle.dm_late.specs.Examples.{judged}
use Rattle.dm_late.specs.Settled.{erased_program}
use Rattle.dm_late.specs.Late.{AreReadFirst, EvaluateAlike, AreClosed, AreQuiet}

pub old_typed : IsWellTypedUnit no_type max_old
unfolding IsDistinct
old_typed = record {
  entries = All-from_recursion IsEntry max_old.declared ((refl, λ linked. linked), ((refl, λ linked. linked), ((refl, refl), tt)));
  externals = All-from_recursion (ExternalFits (file_scene no_type max_old.declared)) max_old.externals (
    (
      All-nil _,
      All-nil _,
      (
        (
          refl,
          (
            (((refl, refl, refl), refl), (((refl, refl, refl), refl), tt)),
            refl,
            (
              (one_statement _ refl, refl),
              (
                (
                  ((refl, refl, refl), refl),
                  (
                    (
                      ((refl, refl), refl, refl, refl, refl, refl),
                      (
                        (
                          (refl, refl, (refl, refl, inr refl, refl)),
                          (((refl, refl, refl), (((refl, refl), tt), tt)), (((refl, refl, refl), (((refl, refl), tt), tt)), tt)),
                        ),
                        (((refl, refl, refl), (((refl, refl), tt), tt)), (((refl, refl, refl), (((refl, refl), tt), tt)), tt)),
                      ),
                    ),
                    tt,
                  ),
                ),
                tt,
              ),
            ),
          ),
          λ e. absurd (omega (arith, ap length e)),
        ),
        refl,
      ),
    ),
    tt,
  );
  once = (tt, tt);
}

pub new_typed : IsWellTypedUnit no_type max_new
unfolding IsDistinct
new_typed = record {
  entries = All-from_recursion IsEntry max_new.declared (
    (refl, λ linked. linked),
    ((refl, λ linked. linked), ((refl, refl), ((refl, λ linked. linked), ((refl, λ linked. linked), ((refl, refl), tt))))),
  );
  externals = All-from_recursion (ExternalFits (file_scene no_type max_new.declared)) max_new.externals (
    (
      All-nil _,
      All-nil _,
      (
        (
          refl,
          (
            (((refl, refl, refl), refl), (((refl, refl, refl), refl), tt)),
            refl,
            (
              (one_statement _ refl, refl),
              (
                (
                  ((refl, refl, refl), refl),
                  (
                    (
                      ((refl, refl), refl, refl, refl, refl, refl),
                      (
                        (
                          (refl, refl, (refl, refl, inr refl, refl)),
                          (((refl, refl, refl), (((refl, refl), tt), tt)), (((refl, refl, refl), (((refl, refl), tt), tt)), tt)),
                        ),
                        (((refl, refl, refl), (((refl, refl), tt), tt)), (((refl, refl, refl), (((refl, refl), tt), tt)), tt)),
                      ),
                    ),
                    tt,
                  ),
                ),
                tt,
              ),
            ),
          ),
          λ e. absurd (omega (arith, ap length e)),
        ),
        refl,
      ),
    ),
    (
      (
        All-nil _,
        All-nil _,
        (
          (
            refl,
            (
              (((refl, refl, refl), refl), (((refl, refl, refl), refl), tt)),
              refl,
              (
                (one_statement _ refl, refl),
                (
                  (
                    ((refl, refl, refl), refl),
                    (
                      (
                        ((refl, refl, (refl, refl, tt)), refl),
                        (((refl, refl), tt), (((refl, refl, refl), (((refl, refl), tt), tt)), (((refl, refl, refl), (((refl, refl), tt), tt)), tt))),
                      ),
                      tt,
                    ),
                  ),
                  tt,
                ),
              ),
            ),
            λ e. absurd (omega (arith, ap length e)),
          ),
          refl,
        ),
      ),
      tt,
    ),
  );
  once = ((refl, tt), (tt, tt));
}

-- ---- what is asked of arguments

reads_first : ReadsFirst 0 max_body
reads_first = inr (inl (refl, inr (inl (refl, inl (record { kind = _; spans = _; named_kind = _; named_spans = _; is = refl })))))

reads_second : ReadsFirst 1 max_body
reads_second = inr (inl (refl, inr (inr (inl (refl, inl (record { kind = _; spans = _; named_kind = _; named_spans = _; is = refl }))))))

pub first : AreReadFirst judged (run_of_max ∷ []) (0 ∷ 1 ∷ []) max_body
first run k p l = ((λ e. absurd (true≢false e)), (λ e. by_position l), (λ e. absurd (true≢false e)))
  where
    by_position : IsAmong p (0 ∷ 1 ∷ []) → ReadsFirst p max_body
    by_position (inl e) = subst (λ n. ReadsFirst n max_body) (sym e) reads_first
    by_position (inr (inl e)) = subst (λ n. ReadsFirst n max_body) (sym e) reads_second
    by_position (inr (inr none)) = absurd none

pub alike : EvaluateAlike judged max_rewriting (0 ∷ 1 ∷ []) (other_externals (Some max_put) max_new.externals) max_old.externals
alike = (
  (
    (
      (
        (
          λ e. (
            (((refl, ((refl, tt), tt)), inl ((refl, ((refl, ((refl, ((refl, tt), tt)), ((refl, ((refl, tt), tt)), tt))), ((refl, ((refl, tt), tt)), ((refl, ((refl, tt), tt)), tt)))), tt)), λ e. absurd (true≢false e)),
            ((((refl, ((refl, tt), tt)), inl ((refl, ((refl, ((refl, ((refl, tt), tt)), ((refl, ((refl, tt), tt)), tt))), ((refl, ((refl, tt), tt)), ((refl, ((refl, tt), tt)), tt)))), tt)), λ e. absurd (true≢false e)), tt),
          ),
          (
            λ e. (
              (((refl, ((refl, tt), tt)), inl ((refl, ((refl, ((refl, ((refl, tt), tt)), ((refl, ((refl, tt), tt)), tt))), ((refl, ((refl, tt), tt)), ((refl, ((refl, tt), tt)), tt)))), tt)), λ e. absurd (true≢false e)),
              ((((refl, ((refl, tt), tt)), inl ((refl, ((refl, ((refl, ((refl, tt), tt)), ((refl, ((refl, tt), tt)), tt))), ((refl, ((refl, tt), tt)), ((refl, ((refl, tt), tt)), tt)))), tt)), λ e. absurd (true≢false e)), tt),
            ),
            tt,
          ),
        ),
        (((tt, tt), ((tt, tt), tt)), (((tt, tt), ((tt, tt), tt)), tt)),
      ),
      tt,
    ),
    tt,
  ),
  tt,
)

pub closed : AreClosed judged max_old (moved (Some max_put)) (program_of no_type max_new)
closed d e = absurd (true≢false (sym e))

pub quiet : AreQuiet judged (program_of no_type max_old)
quiet definition l e = absurd (true≢false (sym e))

pub safe : AreAlwaysSafe (erased_program (program_of no_type max_old)) judged.safe
safe input n state runs_to place run use_of rest e tree picked stands = absurd (true≢false (sym picked))

-- ---- the new program

new_proper : IsProperUnit max_new
new_proper = record {
  entries = All-from_recursion (λ (entry : Declaration). IsProper entry.kind) max_new.declared (tt, (tt, ((tt, (tt, (tt, tt))), (tt, (tt, ((tt, (tt, (tt, tt))), tt))))));
  externals = All-from_recursion (λ (external : External). IsProperForm external.form) max_new.externals (
    (tt, ((tt, ((tt, ((tt, ((tt, ((tt, tt), tt)), ((tt, ((tt, tt), tt)), tt))), ((tt, ((tt, tt), tt)), ((tt, ((tt, tt), tt)), tt)))), tt)), tt)),
    ((tt, ((tt, ((tt, (((tt, (tt, (tt, tt))), tt), ((tt, ((tt, tt), tt)), ((tt, ((tt, tt), tt)), tt)))), tt)), tt)), tt),
  );
}

pub new_sound : IsTypedProgram (program_of no_type max_new)
new_sound = unit_typed no_type max_new table_sound new_typed new_proper
