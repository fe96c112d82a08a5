use Rattle.pv_laws_access.proofs.NameOrigins.{names-moved}
use Rattle.pv_laws_access.proofs.origins.names_come_by_names.Goals as goal

pub returns : goal.returns
returns c =
    λ program_of s pid d name n whole there has new.
    let m = names-moved program_of s pid d name n whole there has new in
    record { me = m.me; call = m.call; made = record { at = m.at; next_is = m.next_is; held = m.held }; place = m.moved.place; node = m.moved.node; allowed = m.moved.allowed }
