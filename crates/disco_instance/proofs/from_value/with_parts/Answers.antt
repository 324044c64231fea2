use Rattle.disco_instance.proofs.from_value.with_parts.Goals as goal

pub invariant_of-result : goal.invariant_of-result
invariant_of-result c =
    let kept = c.requires.key in
    let lease = c.lease_member.ensures.in_range in
    record {
      has_app = kept.has_app;
      has_id = kept.has_id;
      app_in_upper_case = kept.upper;
      country_in_range = c.country_member.ensures.in_range;
      lasts = lease.lasts;
      duration_in_range = lease.duration;
      interval_in_range = lease.interval;
    }
