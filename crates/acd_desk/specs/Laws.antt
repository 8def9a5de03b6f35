-- Laws of the tables and events of every sound content.
use Rattle.std.specs.Prelude.{◌≡◌}
use Rattle.acd_terms.specs.Lists.{Among}
use Rattle.acd_terms.specs.declared.record.GroupRecord.{GroupRecord}
use Rattle.acd_model.specs.Figures.{figures_of}
use Rattle.acd_model.specs.CallPlaces.{IsPlaced}
use Rattle.acd_model.specs.OneOffer.{HasOneOffer}
use Rattle.acd_model.specs.Watcher.{IsWatched}
use Rattle.acd_model.specs.Rules.First.{BreaksNoRule}
use Rattle.acd_laws.specs.BalanceLaws.{IsBalanced}
use Rattle.acd_laws.specs.OfferLaws.{LeavesNoOffer}
use Rattle.acd_book.specs.Content.{Content}

pub record KeepsLaws (c : Content) : Type 0 where
  -- every call is in one queue, or at devices, or is cleared
  pub placed : IsPlaced c.rows c.events
  -- no agent has two distributed calls
  pub one_offer : HasOneOffer c.rows
  -- each entry into a group waits, rings, was answered, was abandoned or was moved
  pub balanced : IsBalanced c.rows c.events
  -- no group has both a waiting call and an eligible agent
  pub no_offer : LeavesNoOffer c.rows
  -- the figures of each group are counted from all events
  pub figures : (g : GroupRecord) → Among g c.rows.groups → g.figures ≡ figures_of g.device c.events
  -- the rows break no rule
  pub rules : BreaksNoRule c.rows
  -- the reports alone give a watcher the connections, the agents and the queues
  pub watched : IsWatched c.rows c.events
