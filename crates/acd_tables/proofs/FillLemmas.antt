-- Rows filled by puts in ascending key.
use Rattle.std.proofs.Common.{◌≡◌, ℕ, ◌+◌, ◌<◌, true, List, length, take, get_or, ap, sym, subst}
use Rattle.acd_terms.specs.Lists.{put_by, ascends}
use Rattle.acd_terms.specs.declared.rows.Rows.{Rows}
use Rattle.acd_terms.specs.declared.record.GroupRecord.{GroupRecord}
use Rattle.acd_terms.specs.declared.record.AgentRecord.{AgentRecord}
use Rattle.acd_terms.specs.declared.record.ConnectionRecord.{ConnectionRecord}
use Rattle.acd_model.specs.Rules.Plan.{group_order, agent_order, connection_order}
use Rattle.acd_model.specs.Writes.{with_group, with_agent, with_connection}
use Rattle.acd_lemmas.proofs.State.{groups_total, agents_total, connections_total}
use Rattle.acd_lemmas.proofs.RuleTests.{ascending_from}
use Rattle.acd_tables.proofs.ListLemmas.{put_by-next}

pub filled_group : (s : Rows) (xs : List GroupRecord) (i : ℕ) (r : GroupRecord) → ascends group_order xs ≡ true → i < length xs → r ≡ get_or xs i r
    → with_group (record s { groups = take i xs }) r ≡ record s { groups = take (i + 1) xs }
unfolding with_group
filled_group s xs i r order lt is =
    ap (λ (l : List GroupRecord). record s { groups = l })
    (subst (λ (z : GroupRecord). put_by (group_order z) (take i xs) z ≡ take (i + 1) xs) (sym is)
    (put_by-next group_order groups_total xs i r (ascending_from group_order groups_total xs order) lt))

pub filled_agent : (s : Rows) (xs : List AgentRecord) (i : ℕ) (r : AgentRecord) → ascends agent_order xs ≡ true → i < length xs → r ≡ get_or xs i r
    → with_agent (record s { agents = take i xs }) r ≡ record s { agents = take (i + 1) xs }
unfolding with_agent
filled_agent s xs i r order lt is =
    ap (λ (l : List AgentRecord). record s { agents = l })
    (subst (λ (z : AgentRecord). put_by (agent_order z) (take i xs) z ≡ take (i + 1) xs) (sym is)
    (put_by-next agent_order agents_total xs i r (ascending_from agent_order agents_total xs order) lt))

pub filled_connection : (s : Rows) (xs : List ConnectionRecord) (i : ℕ) (r : ConnectionRecord) → ascends connection_order xs ≡ true → i < length xs
    → r ≡ get_or xs i r → with_connection (record s { connections = take i xs }) r ≡ record s { connections = take (i + 1) xs }
unfolding with_connection
filled_connection s xs i r order lt is =
    ap (λ (l : List ConnectionRecord). record s { connections = l })
    (subst (λ (z : ConnectionRecord). put_by (connection_order z) (take i xs) z ≡ take (i + 1) xs) (sym is)
    (put_by-next connection_order connections_total xs i r (ascending_from connection_order connections_total xs order) lt))
