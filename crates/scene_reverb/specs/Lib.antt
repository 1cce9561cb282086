pub mod SceneReverb
