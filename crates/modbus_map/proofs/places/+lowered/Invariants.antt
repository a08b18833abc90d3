use Rattle.modbus_map.proofs.places.+lowered.Given as goal

abbrev pub decreases-lowered : goal.decreases-lowered
decreases-lowered l = l.fewer
