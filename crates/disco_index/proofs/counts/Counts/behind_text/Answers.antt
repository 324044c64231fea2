use Rattle.std.proofs.Common.{sym, ap, ◌∙◌}
use Rattle.std.specs.Option.{option_copied}
use Rattle.disco_values.specs.declared.status.Status.TheVariants.{OutOfService, Starting, Unknown, Up}
use Rattle.disco_history.specs.Hash.{hash_by}
use Rattle.disco_index.specs.Behind.{behind}
use Rattle.disco_index.specs.Tally.{count_in}
use Rattle.disco_index.proofs.Stripped.{behind-hash, on}
use Rattle.disco_index.proofs.counts.Counts.behind_text.Goals as goal

pub returns-in_err-text : goal.returns-in_err-text
returns-in_err-text c =
    let n = count_in (record { down = c.self.inside.down; out_of_service = c.self.inside.out_of_service; starting = c.self.inside.starting; unknown = c.self.inside.unknown; up = c.self.inside.up }) in
    ap option_copied c.from_residual.ensures
    ∙ sym (ap (λ t. behind (hash_by (count_in t)) c.args.text.now) (sym c.self.view_is)
    ∙ behind-hash n c.args.text.now
    ∙ ap (λ x. on n Up (on n Unknown (on n Starting (on n OutOfService x)))) (sym c.in_err-text.ensures))

pub returns-in_err-text-2 : goal.returns-in_err-text-2
returns-in_err-text-2 c =
    let n = count_in (record { down = c.self.inside.down; out_of_service = c.self.inside.out_of_service; starting = c.self.inside.starting; unknown = c.self.inside.unknown; up = c.self.inside.up }) in
    ap option_copied c.from_residual-in_err-text-2.ensures
    ∙ sym (ap (λ t. behind (hash_by (count_in t)) c.args.text.now) (sym c.self.view_is)
    ∙ behind-hash n c.args.text.now
    ∙ ap (λ x. on n Up (on n Unknown (on n Starting (on n OutOfService x)))) (sym c.in_ok-text.ensures)
    ∙ ap (λ x. on n Up (on n Unknown (on n Starting x))) (sym c.in_err-text-2.ensures))

pub returns-in_err-text-3 : goal.returns-in_err-text-3
returns-in_err-text-3 c =
    let n = count_in (record { down = c.self.inside.down; out_of_service = c.self.inside.out_of_service; starting = c.self.inside.starting; unknown = c.self.inside.unknown; up = c.self.inside.up }) in
    ap option_copied c.from_residual-in_err-text-3.ensures
    ∙ sym (ap (λ t. behind (hash_by (count_in t)) c.args.text.now) (sym c.self.view_is)
    ∙ behind-hash n c.args.text.now
    ∙ ap (λ x. on n Up (on n Unknown (on n Starting (on n OutOfService x)))) (sym c.in_ok-text.ensures)
    ∙ ap (λ x. on n Up (on n Unknown (on n Starting x))) (sym c.in_ok-text-2.ensures)
    ∙ ap (λ x. on n Up (on n Unknown x)) (sym c.in_err-text-3.ensures))

pub returns-in_err-text-4 : goal.returns-in_err-text-4
returns-in_err-text-4 c =
    let n = count_in (record { down = c.self.inside.down; out_of_service = c.self.inside.out_of_service; starting = c.self.inside.starting; unknown = c.self.inside.unknown; up = c.self.inside.up }) in
    ap option_copied c.from_residual-in_err-text-4.ensures
    ∙ sym (ap (λ t. behind (hash_by (count_in t)) c.args.text.now) (sym c.self.view_is)
    ∙ behind-hash n c.args.text.now
    ∙ ap (λ x. on n Up (on n Unknown (on n Starting (on n OutOfService x)))) (sym c.in_ok-text.ensures)
    ∙ ap (λ x. on n Up (on n Unknown (on n Starting x))) (sym c.in_ok-text-2.ensures)
    ∙ ap (λ x. on n Up (on n Unknown x)) (sym c.in_ok-text-3.ensures)
    ∙ ap (λ x. on n Up x) (sym c.in_err-text-4.ensures))

pub returns : goal.returns
returns c =
    let n = count_in (record { down = c.self.inside.down; out_of_service = c.self.inside.out_of_service; starting = c.self.inside.starting; unknown = c.self.inside.unknown; up = c.self.inside.up }) in
    c.behind_piece-5.ensures
    ∙ sym (ap (λ t. behind (hash_by (count_in t)) c.args.text.now) (sym c.self.view_is)
    ∙ behind-hash n c.args.text.now
    ∙ ap (λ x. on n Up (on n Unknown (on n Starting (on n OutOfService x)))) (sym c.in_ok-text.ensures)
    ∙ ap (λ x. on n Up (on n Unknown (on n Starting x))) (sym c.in_ok-text-2.ensures)
    ∙ ap (λ x. on n Up (on n Unknown x)) (sym c.in_ok-text-3.ensures)
    ∙ ap (λ x. on n Up x) (sym c.in_ok-text-4.ensures))
