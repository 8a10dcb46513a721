use Rattle.pk_index_tests.proofs.certain.look_up.Given as goal

abbrev pub ghosts-least : goal.ghosts-least
ghosts-least a = record { name = a.blank.name; parts = a.blank.parts }
