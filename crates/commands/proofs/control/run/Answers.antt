use mathlib.Core.Path.{◌≡◌, refl, sym, ap, ◌∙◌}
use Rattle.rules.specs.Verb.{verb_number}
use Rattle.wire.specs.Le.{le_at}
use Rattle.tables.specs.Commands.{Command, command_of, data_size, number_codec, register_codec, create_qp_codec, modify_qp_codec}
use Rattle.wire.specs.Codec.{decode}
use Rattle.commands.proofs.CallLaws.{by_data, by_nothing}
use Rattle.commands.proofs.control.run.Goals as goal

pub returns-in-QueryDevice : goal.returns-in-QueryDevice
unfolding command_of data_size number_codec register_codec create_qp_codec modify_qp_codec
returns-in-QueryDevice c =
    let at = c in
    let s = at in
    let e : le_at 1 s.args.command.now 1 ≡ 0 = sym s.requires ∙ ap verb_number at.in-QueryDevice.is in
    by_nothing _ _ _ _ Command.query_device (rw e) refl c.query_device.ensures

pub returns-in-QueryPort : goal.returns-in-QueryPort
unfolding command_of data_size number_codec register_codec create_qp_codec modify_qp_codec
returns-in-QueryPort c =
    let at = c in
    let s = at in
    let e : le_at 1 s.args.command.now 1 ≡ 1 = sym s.requires ∙ ap verb_number at.in-QueryPort.is in
    by_nothing _ _ _ _ Command.query_port (rw e) refl c.query_port.ensures

pub returns-in-CreateCq : goal.returns-in-CreateCq
unfolding command_of data_size number_codec register_codec create_qp_codec modify_qp_codec
returns-in-CreateCq c =
    let at = c in
    let s = at in
    let e : le_at 1 s.args.command.now 1 ≡ 2 = sym s.requires ∙ ap verb_number at.in-CreateCq.is in
    by_data _ _ _ _ Command.create_cq 6 (λ k. decode number_codec k 2) (rw e) refl _ c.read_data.ensures c.create_cq.ensures

pub returns-in-DestroyCq : goal.returns-in-DestroyCq
unfolding command_of data_size number_codec register_codec create_qp_codec modify_qp_codec
returns-in-DestroyCq c =
    let at = c in
    let s = at in
    let e : le_at 1 s.args.command.now 1 ≡ 3 = sym s.requires ∙ ap verb_number at.in-DestroyCq.is in
    by_data _ _ _ _ Command.destroy_cq 6 (λ k. decode number_codec k 2) (rw e) refl _ c.read_data-in-DestroyCq.ensures c.destroy.ensures

pub returns-in-CreatePd : goal.returns-in-CreatePd
unfolding command_of data_size number_codec register_codec create_qp_codec modify_qp_codec
returns-in-CreatePd c =
    let at = c in
    let s = at in
    let e : le_at 1 s.args.command.now 1 ≡ 4 = sym s.requires ∙ ap verb_number at.in-CreatePd.is in
    by_nothing _ _ _ _ Command.create_pd (rw e) refl c.create_pd.ensures

pub returns-in-DestroyPd : goal.returns-in-DestroyPd
unfolding command_of data_size number_codec register_codec create_qp_codec modify_qp_codec
returns-in-DestroyPd c =
    let at = c in
    let s = at in
    let e : le_at 1 s.args.command.now 1 ≡ 5 = sym s.requires ∙ ap verb_number at.in-DestroyPd.is in
    by_data _ _ _ _ Command.destroy_pd 6 (λ k. decode number_codec k 2) (rw e) refl _ c.read_data-in-DestroyPd.ensures c.destroy-in-DestroyPd.ensures

pub returns-in-RegisterMr : goal.returns-in-RegisterMr
unfolding command_of data_size number_codec register_codec create_qp_codec modify_qp_codec
returns-in-RegisterMr c =
    let at = c in
    let s = at in
    let e : le_at 1 s.args.command.now 1 ≡ 7 = sym s.requires ∙ ap verb_number at.in-RegisterMr.is in
    by_data _ _ _ _ Command.register 34 (λ k. decode register_codec k 2) (rw e) refl _ c.read_data-in-RegisterMr.ensures c.register.ensures

pub returns-in-DeregisterMr : goal.returns-in-DeregisterMr
unfolding command_of data_size number_codec register_codec create_qp_codec modify_qp_codec
returns-in-DeregisterMr c =
    let at = c in
    let s = at in
    let e : le_at 1 s.args.command.now 1 ≡ 8 = sym s.requires ∙ ap verb_number at.in-DeregisterMr.is in
    by_data _ _ _ _ Command.deregister 6 (λ k. decode number_codec k 2) (rw e) refl _ c.read_data-in-DeregisterMr.ensures c.destroy-in-DeregisterMr.ensures

pub returns-in-CreateQp : goal.returns-in-CreateQp
unfolding command_of data_size number_codec register_codec create_qp_codec modify_qp_codec
returns-in-CreateQp c =
    let at = c in
    let s = at in
    let e : le_at 1 s.args.command.now 1 ≡ 9 = sym s.requires ∙ ap verb_number at.in-CreateQp.is in
    by_data _ _ _ _ Command.create_qp 18 (λ k. decode create_qp_codec k 2) (rw e) refl _ c.read_data-in-CreateQp.ensures c.create_qp.ensures

pub returns-in-ModifyQp : goal.returns-in-ModifyQp
unfolding command_of data_size number_codec register_codec create_qp_codec modify_qp_codec
returns-in-ModifyQp c =
    let at = c in
    let s = at in
    let e : le_at 1 s.args.command.now 1 ≡ 10 = sym s.requires ∙ ap verb_number at.in-ModifyQp.is in
    by_data _ _ _ _ Command.modify_qp 22 (λ k. decode modify_qp_codec k 2) (rw e) refl _ c.read_data-in-ModifyQp.ensures c.modify_qp.ensures

pub returns-in-DestroyQp : goal.returns-in-DestroyQp
unfolding command_of data_size number_codec register_codec create_qp_codec modify_qp_codec
returns-in-DestroyQp c =
    let at = c in
    let s = at in
    let e : le_at 1 s.args.command.now 1 ≡ 12 = sym s.requires ∙ ap verb_number at.in-DestroyQp.is in
    by_data _ _ _ _ Command.destroy_qp 6 (λ k. decode number_codec k 2) (rw e) refl _ c.read_data-in-DestroyQp.ensures c.destroy-in-DestroyQp.ensures
