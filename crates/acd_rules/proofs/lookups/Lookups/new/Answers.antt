use Rattle.std.proofs.Common.{rules, subst}
use Rattle.std.proofs.lemmas.Fn.{always_returns_same}
use Rattle.acd_rules.specs.Groups.{group_number, station_number, call_number, seat_number, party_call, party_device, party_place, party_group}
use Rattle.acd_rules.specs.SortedRecords.{IsGrouped}
use Rattle.acd_rules.proofs.lookups.Lookups.new.Goals as goal

pub invariant_of-result : goal.invariant_of-result
invariant_of-result c =
    record {
      groups_are =
          subst (λ xs. IsGrouped group_number xs c.by.result) c.as_slice.ensures
          (c.by.ensures group_number (always_returns_same _ _ _ (λ a r f' k. search rules)));
      stations_are =
          subst (λ xs. IsGrouped station_number xs c.by-2.result) c.as_slice-2.ensures
          (c.by-2.ensures station_number (always_returns_same _ _ _ (λ a r f' k. search rules)));
      calls_are =
          subst (λ xs. IsGrouped call_number xs c.by-3.result) c.as_slice-3.ensures
          (c.by-3.ensures call_number (always_returns_same _ _ _ (λ a r f' k. search rules)));
      agents_are =
          subst (λ xs. IsGrouped seat_number xs c.by-4.result) c.as_slice-4.ensures
          (c.by-4.ensures seat_number (always_returns_same _ _ _ (λ a r f' k. search rules)));
      by_call_are =
          subst (λ xs. IsGrouped party_call xs c.by-5.result) c.as_slice-connections.ensures
          (c.by-5.ensures party_call (always_returns_same _ _ _ (λ a r f' k. search rules)));
      by_device_are =
          subst (λ xs. IsGrouped party_device xs c.by-6.result) c.as_slice-connections.ensures
          (c.by-6.ensures party_device (always_returns_same _ _ _ (λ a r f' k. search rules)));
      by_place_are =
          subst (λ xs. IsGrouped party_place xs c.by-7.result) c.as_slice-connections.ensures
          (c.by-7.ensures party_place (always_returns_same _ _ _ (λ a r f' k. search rules)));
      by_group_are =
          subst (λ xs. IsGrouped party_group xs c.by-8.result) c.as_slice-connections.ensures
          (c.by-8.ensures party_group (always_returns_same _ _ _ (λ a r f' k. search rules)));
    }
