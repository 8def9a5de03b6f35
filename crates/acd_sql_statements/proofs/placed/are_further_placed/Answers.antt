use Rattle.std.proofs.Common.{◌≡◌, ℕ, [], ◌∷◌, map, Bool, rules}
use Rattle.acd_sql_columns.specs.AnyRows.{is_beside, rows_in}
use Rattle.sqlite.specs.Held.{state}
use Rattle.acd_sql_columns.proofs.OneTable.Listings.{book_begins}
use Rattle.acd_sql_statements.proofs.RowsInAnyOrder.{further_seen}
use Rattle.std.specs.Prelude.{Vec, IsPermutation}
use Rattle.std.specs.declared.alloc.Global.{Global}
use Rattle.sqlite.specs.Effect.{Database}
use Rattle.acd_sql_columns.specs.declared.tables.Table.TheVariants as table
use Rattle.acd_sql_columns.specs.Decoding.{as_agent, as_further}
use Rattle.acd_sql_columns.specs.Relations.{are_after}
use Rattle.acd_sql_columns.specs.Schema.{tables_1, BeginsSchema}
use Rattle.acd_sql_statements.specs.ReadsBetween.{IsBookSchema}
use Rattle.acd_sql_statements.specs.Looks.{HasGood}
use Rattle.acd_sql_statements.proofs.LookCauses.{looks_then, looks_as, sees_as}
use Rattle.acd_sql_statements.proofs.placed.are_further_placed.Goals as goal

pub returns-clause-looks : goal.returns-clause-looks
returns-clause-looks g c = record {
  seen = λ d is.
      further_seen d (state g.S.Store c.args.conn.now) (state g.S.Store c.further_pairs.new.conn) (state g.S.Store c.are_of_agents_there.new.conn)
      c.in_ok-pairs.pairs c.deref.result.now c.are_of_agents_there.result c.deref.ensures.value (c.in_ok-pairs.ensures.looks.seen d is)
      (c.are_of_agents_there.ensures.looks.seen d (book_begins d.schema is));
}

pub returns-in_err-pairs-clause-looks : goal.returns-in_err-pairs-clause-looks
returns-in_err-pairs-clause-looks g c = record {
  seen =
      λ d is. sees_as d (state g.S.Store c.args.conn.now) (state g.S.Store c.further_pairs.new.conn) c.in_err-pairs.field-0.0 c.from_residual.result
      (search rules) _ (λ (placed : Bool). placed ≡ is_beside d.trees) (c.in_err-pairs.ensures.looks.seen d is);
}

pub returns-clause-looked : goal.returns-clause-looked
returns-clause-looked g c =
    looks_then (HasGood IsBookSchema (table.AgentGroups ∷ table.Agents ∷ [])) (HasGood IsBookSchema (table.AgentGroups ∷ []))
    (HasGood (BeginsSchema tables_1) (table.Agents ∷ []))
    (λ (d : Database) (pairs : Vec (ℕ × ℕ) Global). IsPermutation (map as_further (rows_in table.AgentGroups d.trees)) pairs.items)
    (λ (d : Database) (placed : Bool). placed ≡ are_after (map as_agent (rows_in table.Agents d.trees)) c.deref.result.now)
    (state g.S.Store c.args.conn.now) (state g.S.Store c.further_pairs.new.conn) (state g.S.Store c.are_of_agents_there.new.conn) c.in_ok-pairs.pairs
    c.are_of_agents_there.result (λ d h. (h.0, (h.1.0, tt))) c.in_ok-pairs.ensures.looked
    (λ d h. c.in_ok-pairs.ensures.looks.seen d h.0) (λ d h p. (book_begins d.schema h.0, (h.1.1.0, tt)))
    (λ d h. c.are_of_agents_there.ensures.looks.seen d (book_begins d.schema h.0)) c.are_of_agents_there.ensures.looked

pub returns-in_err-pairs-clause-looked : goal.returns-in_err-pairs-clause-looked
returns-in_err-pairs-clause-looked g c =
    looks_as (HasGood IsBookSchema (table.AgentGroups ∷ table.Agents ∷ [])) (HasGood IsBookSchema (table.AgentGroups ∷ [])) (λ d h. (h.0, (h.1.0, tt)))
    (state g.S.Store c.args.conn.now) (state g.S.Store c.further_pairs.new.conn) c.in_err-pairs.field-0.0 c.from_residual.result (search rules)
    c.in_err-pairs.ensures.looked
