-- What a desk keeps after one more call.
use Rattle.std.proofs.Common.{◌≡◌, ℕ, ◌+◌, List, [], ◌∷◌, ◌++◌, length, map, Option, Some, None, refl, sym, ap, subst, ◌∙◌, arith, append-nil, length-append}
use Rattle.std.proofs.lemmas.List.{map-append}
use Rattle.std.specs.FinMap.{empty, len}
use Rattle.disco_history.specs.Change.{Entry}
use Rattle.disco_registry.specs.Op.{OpView}
use Rattle.disco_queue.specs.Timed.{Timed}
use Rattle.disco_core.specs.Past.{Past, history, nothing, with_done}
use Rattle.disco_core.proofs.Runs.{run_done}
use Rattle.disco_hub.specs.Levels.{AreLevels}
use Rattle.disco_hub.specs.Press.{put_copy, Edition, IsLegal, IsPublishable, Note, begin, change, edition_of, note_of}
use Rattle.disco_hub.specs.Rounds.{Ends}
use Rattle.disco_hub.specs.State.{HubState, HubStandsFor}
use Rattle.disco_hub.specs.Transitions.{BeginsRound, CopiesOne}
use Rattle.disco_hub.specs.declared.copied.Copied.{Copied}
use Rattle.disco_hub.proofs.Levels.{begun_levels, copied_levels, ended_edition, ended_legal, ended_len, ended_levels, ended_publishable, first_levels, plain_levels}
use Rattle.disco_press.specs.Desks.{note_done}
use Rattle.disco_press.specs.Editions.{IsEditionOf}
use Rattle.disco_press.specs.Keeping.{IsKept}
use Rattle.disco_press.specs.Logs.{Logged, notes_in}
use Rattle.disco_press.proofs.Publications.{notes_more}

-- the changes that an operation makes
abbrev pub changes_done : Option Entry → List Entry
changes_done None = []
changes_done (Some c) = c ∷ []

pub noted_is : (o : Option Entry) → map change (changes_done o) ≡ note_done o
noted_is None = refl
noted_is (Some c) = refl

-- the history has its change
pub history_done : (most : ℕ) (p : Past) (now : ℕ) (ask : OpView) (o : Option Entry) → history (with_done most p now ask o) ≡ history p ++ changes_done o
history_done most p now ask None = sym (append-nil (history p))
history_done most p now ask (Some c) = map-append (λ (t : Timed). t.0) p.timed ((c, now) ∷ [])

-- the version is how many changes there are
version_is : (s : HubState) (p : Past) → HubStandsFor s p → s.core.registry.version ≡ length (history p)
version_is s p stands = stands.core.registry.version

module _ (visible : List (List Note)) (log : Logged) (hub hub' : HubState) (next next' : Edition) (n : ℕ) (kept : IsKept visible log hub next n) where
  -- the changes cs, or none
  pub plain_kept : (log' : Logged) (q : Past) (cs : List Entry) → q.run ≡ kept.past.run → history q ≡ history kept.past ++ cs → HubStandsFor hub' q → hub'.rounds ≡ hub.rounds → next' ≡ next
      → log' ≡ record log { pending = log.pending ++ map change cs } → IsKept visible log' hub' next' (n + length cs)
  plain_kept log' q cs run more stands rounds same is =
      let levels = plain_levels hub hub' next next' (notes_in log.published) log.pending kept.past kept.levels q cs run more stands rounds same in
      record {
        shown = kept.shown ∙ ap (λ (r : Logged). r.published) (sym is);
        past = q;
        levels = subst (λ (r : Logged). AreLevels hub' next' (notes_in r.published) r.pending q) (sym is) levels;
        version = omega (arith, version_is hub' q stands, ap (λ h. length h) more, length-append (history kept.past) cs, version_is hub kept.past kept.levels.stands, kept.version);
      }

  -- nothing that is noted
  pub quiet_kept : (q : Past) → q.run ≡ kept.past.run → history q ≡ history kept.past → HubStandsFor hub' q → hub'.rounds ≡ hub.rounds → next' ≡ next → IsKept visible log hub' next' n
  quiet_kept q run same stands rounds next_same =
      subst (λ m. IsKept visible log hub' next' m) (omega arith)
      (plain_kept log q [] run (same ∙ sym (append-nil (history kept.past))) stands rounds next_same (λ i. record { published = log.published; pending = sym (append-nil log.pending) i }))

  -- an accepted operation
  pub written_kept : (log' : Logged) (most now : ℕ) (ask : OpView) (o : Option Entry) → ((p : Past) → HubStandsFor hub p → HubStandsFor hub' (with_done most p now ask o)) → hub'.rounds ≡ hub.rounds → next' ≡ next
      → log' ≡ record log { pending = log.pending ++ note_done o } → IsKept visible log' hub' next' (n + length (changes_done o))
  written_kept log' most now ask o stands rounds same is =
      plain_kept log' (with_done most kept.past now ask o) (changes_done o) (run_done most kept.past now ask o) (history_done most kept.past now ask o) (stands kept.past kept.levels.stands) rounds same
      (is ∙ (λ i. record { published = log.published; pending = log.pending ++ sym (noted_is o) i }))

  -- an accepted operation that makes no change
  pub same_kept : (most now : ℕ) (ask : OpView) → ((p : Past) → HubStandsFor hub p → HubStandsFor hub' (with_done most p now ask None)) → hub'.rounds ≡ hub.rounds → next' ≡ next → IsKept visible log hub' next' n
  same_kept most now ask stands rounds same =
      quiet_kept (with_done most kept.past now ask None) (run_done most kept.past now ask None) (history_done most kept.past now ask None ∙ append-nil (history kept.past)) (stands kept.past kept.levels.stands) rounds same

  -- a round begins
  pub begun_kept : (log' : Logged) (many : ℕ) → BeginsRound hub hub' many → next' ≡ empty
      → log' ≡ record log { pending = log.pending ++ begin ∷ [] } → IsKept visible log' hub' next' n
  begun_kept log' many begins none is = record {
    shown = kept.shown ∙ ap (λ (r : Logged). r.published) (sym is);
    past = kept.past;
    levels = subst (λ (r : Logged). AreLevels hub' next' (notes_in r.published) r.pending kept.past) (sym is) (begun_levels hub hub' next next' (notes_in log.published) log.pending kept.past kept.levels many begins.begun begins.rest none);
    version = ap (λ (s : HubState). s.core.registry.version) begins.rest ∙ kept.version;
  }

  -- a key is copied
  pub copied_kept : (log' : Logged) (c : Copied) → CopiesOne hub hub' c → next' ≡ put_copy next c
      → log' ≡ record log { pending = log.pending ++ note_of c ∷ [] } → IsKept visible log' hub' next' n
  copied_kept log' c one put is = record {
    shown = kept.shown ∙ ap (λ (r : Logged). r.published) (sym is);
    past = kept.past;
    levels = subst (λ (r : Logged). AreLevels hub' next' (notes_in r.published) r.pending kept.past) (sym is) (copied_levels hub hub' next next' (notes_in log.published) log.pending kept.past kept.levels c one.copied.copied one.marked one.rest put);
    version = ap (λ (s : HubState). s.core.registry.version) one.rest ∙ kept.version;
  }

  -- a round ends, and all that was noted is published
  module _ (many : ℕ) (ends : Ends many hub.rounds hub'.rounds) where
    whole_is : (ps : List (List Note)) → ps ≡ log.published ++ log.pending ∷ [] → notes_in ps ≡ notes_in log.published ++ log.pending
    whole_is ps is = ap (λ (qs : List (List Note)). notes_in qs) is ∙ notes_more log.published log.pending

    pub edition_ended : (ps : List (List Note)) → ps ≡ log.published ++ log.pending ∷ [] → IsEditionOf ps next
    edition_ended ps is =
        let same = whole_is ps is in
        record {
          docs_are = ended_edition hub hub' next next' (notes_in log.published) log.pending kept.past kept.levels many ends ∙ ap edition_of (sym same);
          run = kept.past.run;
          legal = subst (IsLegal kept.past.run) (sym same) (ended_legal hub hub' next next' (notes_in log.published) log.pending kept.past kept.levels many ends);
          publishable = subst IsPublishable (sym same) (ended_publishable hub hub' next next' (notes_in log.published) log.pending kept.past kept.levels many ends);
        }

    pub ended_many : many ≡ len (edition_of (notes_in log.published ++ log.pending))
    ended_many = ends.many ∙ sym (ended_len hub hub' next next' (notes_in log.published) log.pending kept.past kept.levels many ends)

    pub ended_kept : (visible' : List (List Note)) (log' : Logged) → visible' ≡ log'.published → hub' ≡ record hub { rounds = hub'.rounds } → log' ≡ record { published = log.published ++ log.pending ∷ []; pending = [] } → IsKept visible' log' hub' next' n
    ended_kept visible' log' shown rest is =
        let levels = ended_levels hub hub' next next' (notes_in log.published) log.pending kept.past kept.levels many ends rest in
        record {
          shown = shown;
          past = kept.past;
          levels = subst (λ (t : List Note × List Note). AreLevels hub' next' t.0 t.1 kept.past) (λ i. (sym (whole_is log'.published (ap (λ (r : Logged). r.published) is)) i, ap (λ (r : Logged). r.pending) (sym is) i)) levels;
          version = ap (λ (s : HubState). s.core.registry.version) rest ∙ kept.version;
        }

-- nothing was noted yet
pub new_kept : (run : ℕ) (visible : List (List Note)) (log : Logged) (hub : HubState) (next : Edition) (n : ℕ) → visible ≡ [] → log.published ≡ [] → log.pending ≡ [] → HubStandsFor hub (nothing run) → hub.rounds ≡ record { edition = empty; round = None } → n ≡ 0 → IsKept visible log hub next n
new_kept run visible log hub next n none none' none'' stands rounds zero = record {
  shown = none ∙ sym none';
  past = nothing run;
  levels = subst (λ (t : List (List Note) × List Note). AreLevels hub next (notes_in t.0) t.1 (nothing run)) (λ i. (sym none' i, sym none'' i)) (first_levels run hub next stands rounds);
  version = version_is hub (nothing run) stands ∙ sym zero;
}
