use Rattle.pk_index_tests.proofs.possible.look_up_strong.Given as goal

abbrev pub ghosts-least_strong : goal.ghosts-least_strong
ghosts-least_strong a = record { name = a.blank.name; parts = a.blank.parts }
