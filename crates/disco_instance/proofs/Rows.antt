-- The member table, member by member and as one row.
use Rattle.std.proofs.Common.{◌≡◌, List, ℕ, IfOk, Option, Result, Ok, Err, sym, ap, subst, ◌∙◌}
use Rattle.serde_json.specs.Data.{Data}
use Rattle.disco_values.specs.declared.fault.Fault.{Fault}
use Rattle.disco_instance.specs.declared.details.Details.{Details}
use Rattle.disco_instance.specs.declared.record.Record.{Record}
use Rattle.disco_instance.specs.Row.{row}
use Rattle.disco_instance.specs.Instance.{Gives, row_at, if_ok, key_at, told_by}
use Rattle.disco_instance.specs.Steps.{SaysDetails, SaysRest}

pub same_rows : (d : Data) (r : Record) → SaysRest d r → SaysDetails d r.details → row r ≡ row_at d r.key
unfolding row_at
same_rows d r s t = λ i. record {
  key = r.key;
  country_id = s.country i;
  data_center = t.data_center i;
  health_check_url = t.health_check_url i;
  home_page_url = t.home_page_url i;
  status_page_url = t.status_page_url i;
  host_name = t.host_name i;
  ip_addr = t.ip_addr i;
  is_coordinating = s.is_coordinating i;
  last_dirty = s.last_dirty i;
  last_updated = s.last_updated i;
  lease = s.lease i;
  metadata = t.metadata i;
  overridden_status = s.overridden_status i;
  port = s.port i;
  secure_port = s.secure_port i;
  secure_vip_address = t.secure_vip_address i;
  vip_address = t.vip_address i;
  status = s.status i;
}

pub told : (within : Option (List ℕ)) (d : Data) (x : Details) (r : Result Record Fault)
    → SaysDetails d x → IfOk r (λ y. SaysRest d y) → IfOk r (λ y. y.details ≡ x) → Gives (λ y. y.key) r (key_at within d) → Gives row r (told_by within d)
told within d x (Ok r) t s h k = ap (λ o. if_ok o (λ q. Ok (row_at d q))) k ∙ ap Ok (sym (same_rows d r s (subst (λ y. SaysDetails d y) (sym h) t)))
told within d x (Err e) t s h k = λ other. ap (λ o. if_ok o (λ q. Ok (row_at d q))) (k other)
