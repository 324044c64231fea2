-- What is wrong with words that ask for a restart in the last run, and how the command ends.
use Rattle.std.proofs.Common.{◌≡◌, ◌&&◌, ℕ, Bool, true, false, List, [], ◌∷◌, Option, codes, unwrap_or, ap, sym, ◌∙◌, subst, inl, inr, arith, refl}
use Rattle.std.specs.Option.{option_map_or}
use Rattle.clap.specs.Kinds.{HasKind, or_else}
use Rattle.clap.specs.Words.{Kinds, Row as Given, Text}
use Rattle.clap.specs.declared.error.Error.{Error}
use Rattle.clap.specs.declared.error.kind.ErrorKind.TheVariants as kind
use Rattle.disco_options.specs.Ending.{EndsBy}
use Rattle.disco_options.specs.Options.{AreMatches, faults_of, flag_given, matches_for, number_given}
use Rattle.disco_options.specs.declared.subcommand.Subcommand.TheVariants.{Fleet}
use Rattle.disco_prog.specs.Fleets.{IsFleetPlan, ask_for_no_run, faults_of_fleet, faults_of_restart, is_last_run}
use Rattle.disco_prog.specs.declared.fleets.plan.Plan.{Plan}

-- the plan asks for it exactly where the words do
asked : (words : List Text) (rows : List Given) (p : Plan) → AreMatches Fleet words rows → IsFleetPlan rows p → ask_for_no_run words ≡ is_last_run p.restart p.settings.run
unfolding ask_for_no_run
asked words rows p m g =
    let test : List Given → Bool = λ rows. is_last_run (flag_given (codes "restart") rows) (unwrap_or (number_given (codes "run") rows) 0) in
    ap (λ o. option_map_or (λ options. test (matches_for Fleet options)) o false) m.1 ∙ ap test (sym m.2) ∙ (λ i. is_last_run (sym g.restart i) (sym g.settings.run i))

-- what is wrong with words that are good by themselves
good_words : (words : List Text) (rows : List Given) (p : Plan) → faults_of Fleet words ≡ [] → AreMatches Fleet words rows → IsFleetPlan rows p → faults_of_fleet words ≡ faults_of_restart (is_last_run p.restart p.settings.run)
good_words words rows p good m g =
    ap (λ ks. or_else ks (faults_of_restart (ask_for_no_run words))) good ∙ ap faults_of_restart (asked words rows p m g)

pub both : (a b : Bool) → a ≡ true → b ≡ true → (a && b) ≡ true
both true b e f = f
both false b e f = absurd (cc)

-- an error that the first kinds tell, or want of memory, is one of the kinds that come first
pub has_either : (kinds others : Kinds) (e : Error) → HasKind kinds e → HasKind (or_else kinds others) e
has_either [] others e (inl memory) = inl memory
has_either [] others e (inr none) = absurd none
has_either (k ∷ ks) others e has = has

module _ {W E : Type 0} (contents : E → Option (List ℕ)) (failed : E → ℕ) (status : ℕ) (out-old out-new : W) (errors-old errors-new : E) where
  pub refused_restart : (b : Bool) → b ≡ true → status ≡ 2 → out-new ≡ out-old → EndsBy contents failed (faults_of_restart b) status out-old out-new errors-old errors-new
  refused_restart true e two same = record {
    most = omega (arith, two);
    refused = λ _. inr (kind.ArgumentConflict, inl refl, two);
    lacks = λ _ one. absurd (omega (arith, one, two));
    settled = λ none. absurd (cc);
    unwritten = λ _. same;
    silent = λ zero. absurd (omega (arith, zero, two));
    told = λ one. absurd (omega (arith, one, two));
  }
  refused_restart false e two same = absurd (cc)

  pub carried_out : (words : List Text) (rows : List Given) (p : Plan) → faults_of Fleet words ≡ [] → AreMatches Fleet words rows → IsFleetPlan rows p
      → EndsBy contents failed (faults_of_restart (is_last_run p.restart p.settings.run)) status out-old out-new errors-old errors-new → EndsBy contents failed (faults_of_fleet words) status out-old out-new errors-old errors-new
  carried_out words rows p good m g e = subst (λ ks. EndsBy contents failed ks status out-old out-new errors-old errors-new) (sym (good_words words rows p good m g)) e
