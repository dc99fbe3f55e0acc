use Rattle.std.proofs.Common.{List, ℕ, ap, ◌∙◌}
use Rattle.toml.specs.View.{view, members_view}
use Rattle.phh_format.specs.Members.{with_member}
use Rattle.phh_format.proofs.Puts.{members_view-insert_entry}
use Rattle.phh_format.proofs.members.put.Goals as goal

pub returns : goal.returns
returns c =
    ap members_view c.in_ok-try_insert.ensures.entries
    ∙ members_view-insert_entry c.args.table.now.entries c.in_ok-name.name c.args.value
    ∙ ap (λ (k : List ℕ). with_member k (view c.args.value) (members_view c.args.table.now.entries)) c.in_ok-name.ensures.ok
