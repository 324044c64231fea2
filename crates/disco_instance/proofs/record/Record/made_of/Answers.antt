use Rattle.disco_instance.proofs.SameRow.{same_row}
use Rattle.disco_instance.proofs.record.Record.made_of.Goals as goal

pub returns : goal.returns
returns c =
    let old = c.args.self.now in
    same_row _ _ (λ i. let key = c.requires.key i in let details = c.requires.details i in record {
      key = key;
      country_id = old.country_id;
      data_center = details.data_center;
      health_check_url = details.health_check_url;
      home_page_url = details.home_page_url;
      status_page_url = details.status_page_url;
      host_name = details.host_name;
      ip_addr = details.ip_addr;
      is_coordinating = old.is_coordinating;
      last_dirty = old.last_dirty;
      last_updated = old.last_updated;
      lease = old.lease;
      metadata = details.metadata;
      overridden_status = old.overridden_status;
      port = old.port;
      secure_port = old.secure_port;
      secure_vip_address = details.secure_vip_address;
      vip_address = details.vip_address;
      status = old.status;
    })
