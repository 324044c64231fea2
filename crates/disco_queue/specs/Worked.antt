-- The definitions computed on small examples.
use Rattle.std.specs.Prelude.{◌≡◌, [], ◌∷◌}
use Rattle.disco_history.specs.Change.{Entry}
use Rattle.disco_queue.specs.Base.{base_after_change, base_after_cleaning, leaving}
use Rattle.disco_queue.specs.Queue.{newest}

pub record WorkedQueue (a b c : Entry) : Type 0 where
  pub stays : leaving 181000 180000 ((a, 1000) ∷ []) ≡ 0
  pub leaves : leaving 181001 180000 ((a, 1000) ∷ []) ≡ 1
  pub too_early : leaving 5 180000 ((a, 1000) ∷ []) ≡ 0
  pub first_stays : leaving 182000 180000 ((a, 5000) ∷ (b, 1000) ∷ []) ≡ 0
  pub both_leave : leaving 185001 180000 ((a, 5000) ∷ (b, 1000) ∷ []) ≡ 2
  pub from_base : base_after_cleaning 181001 180000 1 ((a, 9000) ∷ (b, 1000) ∷ (c, 2000) ∷ []) ≡ 2
  pub not_full : base_after_change 3 0 2 ≡ 0
  pub full : base_after_change 1 0 2 ≡ 1
  pub cleaned : base_after_change 2 5 6 ≡ 5
  pub last_two : newest 2 ((a, 1) ∷ (b, 2) ∷ (c, 3) ∷ []) ≡ (b, 2) ∷ (c, 3) ∷ []
