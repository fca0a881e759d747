use Rattle.std.proofs.Common.{◌≡◌, drop}
use Rattle.std.specs.List.{fold}
use Rattle.am_group.specs.Deliveries.{deliveries}
use Rattle.am_service_defs.specs.Replicas.{fresh_replica}
use Rattle.am_services.specs.Texts.{start_of, last_given_number}
use Rattle.am_services.specs.Telling.{replayed_with}
use Rattle.am_services.proofs.directories.push_directory.Given as goal

abbrev pub invariant-loop-item : goal.invariant-loop-item
invariant-loop-item l = record {
  replica : replayed_with l.replica (deliveries (drop l.item-index l.records) l.name)
      ≡ replayed_with (fresh_replica (start_of l.founding (l.name, deliveries l.records l.name))) (deliveries l.records l.name);
  front : fold (λ f pair. pair.0) l.front (deliveries (drop l.item-index l.records) l.name) ≡ last_given_number (deliveries l.records l.name);
  same : l.out ≡ l.fn.out;
}
