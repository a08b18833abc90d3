use Rattle.modbus_map.proofs.places.+raised.Given as goal

abbrev pub decreases-raised : goal.decreases-raised
decreases-raised l = l.more
