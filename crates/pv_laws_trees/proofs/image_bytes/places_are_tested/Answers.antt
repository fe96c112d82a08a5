use Rattle.pv_laws_trees.proofs.ImagePlaces.{place-fine, fine-place}
use Rattle.pv_laws_trees.proofs.image_bytes.places_are_tested.Goals as goal

pub returns : goal.returns
returns c = λ v bytes n. (place-fine v bytes n, fine-place v bytes n)
