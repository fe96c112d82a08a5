use Rattle.pv_laws_answers.proofs.ListedNeeds.{made-in}
use Rattle.pv_laws_answers.proofs.process_images.process_images_are_of_the_run.Goals as goal

pub returns : goal.returns
returns c = λ program_of pids s pid process_image m is. made-in program_of pid pids s process_image m is
